use Rattle.std.proofs.Common.{◌≡◌, ◌*◌, take, vec_items, vec_len, sym, refl, ap, ◌∙◌, arith}
use Rattle.map_table.specs.Tables.{rows_fit, maps_in}
use Rattle.map_table.proofs.Rowwise.{fits_take, maps-take}
use Rattle.map_table.proofs.table.MapTable.keep_rows.Goals as goal

pub invariant_of-self : goal.invariant_of-self
invariant_of-self g c =
    let t = c.args.self.now in
    let rows : vec_len c.truncate-2.new.self ≡ c.args.rows = omega (arith, c.truncate-2.ensures.len, c.requires) in
    let places : vec_len c.truncate.new.self ≡ c.args.rows * t.stride = omega (arith, c.truncate.ensures.len, c.start_of-places.ensures.start, c.start_of-places.ensures.within) in record {
      some = t.some;
      few = t.few;
      whole = places ∙ ap (λ n. n * t.stride) (sym rows);
      fit = ap (rows_fit t.stride) c.truncate-2.ensures.items ∙ fits_take t.stride c.args.rows (vec_items t.rows) t.fit;
      within = omega (arith, t.within, c.requires);
      reserved = omega (arith, t.reserved, c.truncate-2.ensures.capacity);
      places = omega (arith, t.places, c.truncate.ensures.capacity);
    }

pub returns : goal.returns
returns g c =
    let t = c.args.self.now in
    record {
      maps =
          ap (λ rs. maps_in t.stride (vec_items c.truncate.new.self) rs) c.truncate-2.ensures.items
          ∙ ap (λ es. maps_in t.stride es (take c.args.rows (vec_items t.rows))) c.truncate.ensures.items
          ∙ ap (λ n. maps_in t.stride (take n (vec_items t.entries)) (take c.args.rows (vec_items t.rows))) c.start_of-places.ensures.start
          ∙ maps-take t.stride (vec_items t.entries) (vec_items t.rows) c.args.rows t.fit;
      shape = record { stride = refl; room = refl };
    }
