use Rattle.std.proofs.Common.{◌≡◌, ◌+◌, ◌-◌, ◌*◌, ◌≤◌, true, ◌++◌, length, replicate, is_ok, vec_items, vec_len, sym, refl, ap, ◌∙◌, subst, arith}
use Rattle.std.proofs.lemmas.List.{length-replicate}
use Rattle.std.proofs.lemmas.Bool.{cond-true}
use Rattle.map_table.specs.Tables.{rows_fit, maps_in, OutsideStays}
use Rattle.map_table.proofs.Rowwise.{fits_push, maps-push}
use Rattle.map_table.proofs.RowEdits.{row_within, one_more, grown, filler_entry, outside_push}
use Rattle.map_table.proofs.table.MapTable.append_row.Goals as goal

pub invariant_of-self : goal.invariant_of-self
invariant_of-self g c =
    let t = c.args.self.now in
    let n = vec_len t.rows in
    let stride = t.stride in
    let whole = t.whole in
    let room : n * stride + stride ≤ t.room * stride = row_within n t.room stride c.requires in
    let ok : is_ok c.resize.result ≡ true = c.resize.ensures.succeeds (omega (arith, c.len.ensures, t.places)) in
    let long : vec_len c.resize.new.self ≡ n * stride + stride = c.resize.ensures.len ∙ cond-true _ _ _ ok ∙ omega (arith, c.len.ensures) in record {
      some = t.some;
      few = t.few;
      whole = long ∙ sym (one_more n stride) ∙ ap (λ k. k * stride) (sym c.push_reserved.ensures.len);
      fit = ap (rows_fit stride) c.push_reserved.ensures.items ∙ fits_push stride (vec_items t.rows) _ (omega arith) t.fit;
      within = omega (arith, c.push_reserved.ensures.len, c.requires);
      reserved = omega (arith, t.reserved, c.push_reserved.ensures.capacity);
      places = omega (arith, t.places, c.resize.ensures.capacity);
    }

pub returns : goal.returns
returns g c =
    let t = c.args.self.now in
    let n = vec_len t.rows in
    let stride = t.stride in
    let es = vec_items t.entries in
    let rs = vec_items t.rows in
    let ws = replicate (c.len.result + stride - vec_len t.entries) (filler_entry t.filler) in
    let whole = t.whole in
    let rows = t.rows.ok.0 in
    let places = t.entries.ok.0 in
    let room : n * stride + stride ≤ t.room * stride = row_within n t.room stride c.requires in
    let ok : is_ok c.resize.result ≡ true = c.resize.ensures.succeeds (omega (arith, c.len.ensures, t.places)) in
    let longer = grown c.resize.result es (vec_items c.resize.new.self) (c.len.result + stride) (c.len.result + stride - vec_len t.entries) _ ok (omega (arith, c.len.ensures)) c.resize.ensures.items in
    let filled : length ws ≡ stride = length-replicate (c.len.result + stride - vec_len t.entries) _ ∙ omega (arith, c.len.ensures) in
    record {
      maps =
          ap (λ xs. maps_in stride xs (vec_items c.push_reserved.new.self)) longer
          ∙ ap (λ xs. maps_in stride (es ++ ws) xs) c.push_reserved.ensures.items
          ∙ maps-push stride es ws rs _ (sym places ∙ whole ∙ ap (λ k. k * stride) rows) t.fit;
      outside = subst (OutsideStays stride n es) (sym longer) (outside_push stride n es ws (sym places ∙ whole) filled);
      shape = record { stride = refl; room = refl };
    }
