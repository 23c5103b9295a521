use Rattle.std.proofs.Common.{rules, get_or, Err, ◌∙◌, ◌≡◌, ◌+◌, ◌-◌, ◌<◌, ◌≤◌, length, take, drop, set, vec_items, vec_len, sym, refl, ap, subst, arith}
use Rattle.std.proofs.lemmas.List.{length-take, length-drop}
use Rattle.texts.specs.Outcomes.{leaves, answers, at_place, Came}
use Rattle.vec_map.specs.declared.fault.MapFault.TheVariants.{NoPlace}
use Rattle.map_table.specs.Edits.{edit_on}
use Rattle.map_table.specs.Rows.{maps_of}
use Rattle.map_table.specs.Tables.{maps_in, OutsideStays}
use Rattle.map_table.proofs.Rowwise.{fits_set}
use Rattle.map_table.proofs.RowEdits.{row_missing, row_edited, outside_same, outside_stretch}
use Rattle.map_table.proofs.Stretches.{stretch_lent, lent_stretch}
use Rattle.map_table.proofs.table.MapTable.edit_row.Goals as goal

pub returns-in_err-kept : goal.returns-in_err-kept
returns-in_err-kept g c =
    let t = c.args.self.now in
    let out : length (vec_items t.rows) ≤ c.args.row = search rules in
    let none = row_missing NoPlace t.stride (vec_items t.entries) (vec_items t.rows) c.args.row (edit_on (g.S.Sameness.alike c.args.by.now) t.stride c.args.edit) out in
    let told : c.from_residual.result ≡ Err NoPlace = search rules in
    record {
      came = record { told = told ∙ ap answers (sym none); left = ap (leaves _) (sym none) };
      outside = outside_same _ _ _;
      shape = record { stride = refl; room = refl };
    }

pub invariant_of-self : goal.invariant_of-self
invariant_of-self g c =
    let t = c.args.self.now in
    let start = c.start_of-start.result in
    let low : c.edit_places-told.result.0.len ≤ t.stride = omega (arith, c.edit_places-told.ensures.fits, length-take (start + t.stride - start) (drop start c.deref_mut.result.now)) in
    record {
      some = t.some;
      few = t.few;
      whole = t.whole;
      fit = fits_set t.stride (vec_items t.rows) c.args.row c.edit_places-told.result.0 low t.fit;
      within = t.within;
      reserved = t.reserved;
      places = t.places;
    }

pub returns : goal.returns
returns g c =
    let t = c.args.self.now in
    let row = c.args.row in
    let start = c.start_of-start.result in
    let stride = t.stride in
    let es = vec_items t.entries in
    let rs = vec_items t.rows in
    let lent = c.deref_mut.result.now in
    let is = c.deref_mut.ensures.value in
    let zs = c.edit_places-told.new.places in
    let low : c.edit_places-told.result.0.len ≤ stride = omega (arith, c.edit_places-told.ensures.fits, length-take (start + stride - start) (drop start lent)) in
    let fits : start + stride ≤ length es = omega (arith, c.start_of-start.ensures.within, t.entries.ok.0) in
    let long : length zs ≡ stride = omega (arith, c.edit_places-told.auto.places, length-take (start + stride - start) (drop start lent), length-drop start lent, ap length is) in
    let there : row < length rs = search rules in
    let kept = c.in_ok-kept.field-0.now in
    let read : kept ≡ get_or rs row kept = search rules in
    let put = stretch_lent es zs lent _ start stride (vec_len t.entries) is t.entries.ok.0 c.start_of-start.ensures.within long in
    record {
      came =
          subst (λ xs. Came (at_place NoPlace (edit_on (g.S.Sameness.alike c.args.by.now) stride c.args.edit) (maps_of t) row) (maps_of t) (maps_in stride xs (set rs row c.edit_places-told.result.0)) c.edit_places-told.result.1) (sym put)
          (row_edited _ stride es rs row start (λ n. edit_on (g.S.Sameness.alike c.args.by.now) n c.args.edit) kept c.edit_places-told.result.0 (take (start + stride - start) (drop start lent)) zs _
          c.start_of-start.ensures.start fits there t.fit read (lent_stretch es lent start stride is) low long c.edit_places-told.ensures.told c.edit_places-told.ensures.left);
      outside = subst (OutsideStays stride row es) (sym put) (outside_stretch stride row start es zs c.start_of-start.ensures.start fits long);
      shape = record { stride = refl; room = refl };
    }
