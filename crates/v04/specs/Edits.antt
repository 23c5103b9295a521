-- Edits of the maps of one v04 span.
use Rattle.std.specs.Prelude.{ℕ, Bool, ◌&&◌, [], ◌∷◌, Some, None, Option}
use Rattle.texts.specs.declared.stock.Text.{Text}
use Rattle.texts.specs.Outcomes.{Outcome, carry, at_place}
use Rattle.texts.specs.Outcomes.Outcome.{taken, refused}
use Rattle.texts.specs.Stocks.{Texts}
use Rattle.vec_map.specs.declared.fault.MapFault.{MapFault}
use Rattle.vec_map.specs.declared.fault.MapFault.TheVariants.{NoPlace}
use Rattle.vec_map.specs.Maps.{Map}
use Rattle.map_table.specs.declared.table.edits.Edit.{Edit}
use Rattle.span.specs.declared.owner.Owner.TheVariants as at
use Rattle.span.specs.declared.value.Value.{Value}
use Rattle.span.specs.declared.value.Value.TheVariants as of
use Rattle.span.specs.Edits.{insert_home}
use Rattle.span.specs.Model.{Maps}
use Rattle.span.specs.Tables.{Table, with_spans, edit_owner}
use Rattle.v04.specs.Maps.{typed}
use Rattle.v04.specs.Shown.{v04_view}

abbrev pub edit_span : Texts → Edit Value → ℕ → Table → Outcome Table (Unit {0}) MapFault
edit_span t e p b = edit_owner v04_view t e (at.Span p) b

abbrev pub edit_chunk : Texts → Edit Value → ℕ → Table → Outcome Table (Unit {0}) MapFault
edit_chunk t e p b = edit_owner v04_view t e (at.Chunk p) b

-- an insert into one of the maps of a span, by the map's number
abbrev pub insert_span : Option ℕ → Text → Value → ℕ → Table → Outcome Table (Unit {0}) MapFault
insert_span home k v p b = carry (with_spans b) (at_place NoPlace (insert_home b.stride home k v) b.spans p)

-- two calls as one: it is taken where both are, and else the first refusal counts
abbrev pub both : {X Y Z R F : Type 0} → (X → Y → Z) → Outcome X R F → Outcome Y R F → Outcome Z R F
both f (taken x a) (taken y b) = taken (f x y) a
both f (taken x a) (refused e) = refused e
both f (refused e) o = refused e

-- the two maps of a span
abbrev pub pair : Map Text Text → Map Text ℕ → Maps
pair m n = typed of.Text m ∷ (typed of.Float n ∷ [])

-- whether both are true, where there are both
abbrev pub and_both : Option Bool → Option Bool → Option Bool
and_both (Some a) (Some b) = Some (a && b)
and_both (Some a) None = None
and_both None b = None
