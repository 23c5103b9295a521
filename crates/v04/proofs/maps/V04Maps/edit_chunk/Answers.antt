use Rattle.std.proofs.Common.{◌≡◌, ℕ, Bool, [], replicate, refl, ap, arith}
use Rattle.std.proofs.lemmas.List.{length-replicate}
use Rattle.texts.specs.declared.stock.Text.{Text}
use Rattle.texts.specs.Outcomes.{carry}
use Rattle.texts.specs.Outcomes.Outcome.{refused}
use Rattle.texts.specs.Stocks.{same_text}
use Rattle.vec_map.specs.declared.fault.MapFault.TheVariants.{Lacks}
use Rattle.map_table.specs.declared.table.edits.Edit.{Edit}
use Rattle.map_table.specs.declared.table.edits.Edit.TheVariants.{Insert, Remove, Dedup, Claim}
use Rattle.map_table.proofs.Placed.{none_at}
use Rattle.span.specs.declared.value.Value.{Value}
use Rattle.span.specs.Edits.{edit_maps}
use Rattle.span.specs.Model.{Maps}
use Rattle.span.specs.Tables.{with_chunks}
use Rattle.span.specs.Views.Kind.{of_chunk}
use Rattle.v04.specs.Shown.{v04_home}
use Rattle.v04.specs.Tables.{v04_table}
use Rattle.v04.proofs.Calls.{refused_all}
use Rattle.v04.proofs.Whole.{refused-came}
use Rattle.v04.proofs.maps.V04Maps.edit_chunk.Goals as goal

-- where there is no map, every edit is refused for that
no_maps : (same : Text → Text → Bool) (stride : ℕ) (e : Edit Value) → edit_maps same stride (v04_home of_chunk) e [] ≡ refused Lacks
no_maps same stride (Insert k v) = refl
no_maps same stride (Remove k) = refl
no_maps same stride Dedup = refl
no_maps same stride Claim = refl

pub returns-then-row-self : goal.returns-then-row-self
returns-then-row-self g c =
    let m = c.self.inside in
    let t = v04_table m in
    let same = same_text (g.S.Stock.meaning c.args.stock.now) in
    rw (← c.self.view_is) (refused-came _ t _ (ap (carry (with_chunks t)) (refused_all _ _ (edit_maps same t.stride (v04_home of_chunk) c.args.edit) [] (no_maps same t.stride c.args.edit) m.chunks c.args.row (omega arith))))

pub returns-else-row-self : goal.returns-else-row-self
returns-else-row-self g c =
    let t = v04_table c.self.inside in
    let same = same_text (g.S.Stock.meaning c.args.stock.now) in
    rw (← c.self.view_is) (refused-came _ t _ (ap (carry (with_chunks t)) (none_at _ (edit_maps same t.stride (v04_home of_chunk) c.args.edit) (replicate c.self.inside.chunks []) c.args.row (omega (arith, length-replicate {A = Maps} c.self.inside.chunks [])))))
