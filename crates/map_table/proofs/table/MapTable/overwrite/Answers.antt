use Rattle.std.proofs.Common.{◌+◌, ◌-◌, ◌<◌, ◌≤◌, length, take, drop, set, vec_items, sym, refl, ap, ◌∙◌, subst, arith}
use Rattle.vec_map.specs.Maps.{blank}
use Rattle.map_table.specs.Rows.{maps_of}
use Rattle.map_table.specs.Tables.{maps_in, OutsideStays}
use Rattle.map_table.proofs.Rowwise.{fits_read, fits_set, maps-set}
use Rattle.map_table.proofs.RowEdits.{row_at, places_long, outside_stretch}
use Rattle.map_table.proofs.Stretches.{pasted_stretch}
use Rattle.map_table.proofs.table.MapTable.overwrite.Goals as goal

pub invariant_of-self : goal.invariant_of-self
invariant_of-self g c =
    let t = c.args.self.now in
    let rs = vec_items t.rows in
    let there : c.args.from < length rs = omega (arith, t.rows.ok.0, c.requires.source) in
    let low = fits_read t.stride rs c.args.from c.index.result.now c.index.ensures there t.fit in record {
      some = t.some;
      few = t.few;
      whole = c.copy_within.ensures.len ∙ t.whole;
      fit = fits_set t.stride rs c.args.to c.index.result.now low t.fit;
      within = t.within;
      reserved = t.reserved;
      places = omega (arith, t.places, c.copy_within.ensures.capacity);
    }

pub returns : goal.returns
returns g c =
    let t = c.args.self.now in
    let stride = t.stride in
    let es = vec_items t.entries in
    let rs = vec_items t.rows in
    let kept = c.index.result.now in
    let source = c.start_of-source.result in
    let target = c.start_of-target.result in
    let zs = take stride (drop source es) in
    let there : c.args.from < length rs = omega (arith, t.rows.ok.0, c.requires.source) in
    let inside : source + stride ≤ length es = omega (arith, c.start_of-source.ensures.within, t.entries.ok.0) in
    let fits : target + stride ≤ length es = omega (arith, c.start_of-target.ensures.within, t.entries.ok.0) in
    let long = places_long stride es rs c.args.from source c.start_of-source.ensures.start inside there t.fit in
    let copied = c.copy_within.ensures.items ∙ pasted_stretch es (drop source es) target stride (source + stride - source) (omega arith) in
    record {
      maps =
          ap (λ xs. maps_in stride xs (set rs c.args.to kept)) copied
          ∙ maps-set stride es zs rs c.args.to target kept c.start_of-target.ensures.start fits t.fit (fits_read stride rs c.args.from kept c.index.ensures there t.fit) long
          ∙ ap (set (maps_of t) c.args.to) (sym (row_at stride es rs c.args.from source c.start_of-source.ensures.start inside there t.fit kept c.index.ensures blank));
      outside = subst (OutsideStays stride c.args.to es) (sym copied) (outside_stretch stride c.args.to target es zs c.start_of-target.ensures.start fits long);
      shape = record { stride = refl; room = refl };
    }
