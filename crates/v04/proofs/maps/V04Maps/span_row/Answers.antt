use Rattle.std.proofs.Common.{◌≡◌, ◌≤◌, sym, ap, ◌∙◌, arith}
use Rattle.std.specs.Option.{option_map}
use Rattle.map_table.specs.Tables.{row_of}
use Rattle.map_table.specs.Rows.{maps_of}
use Rattle.v04.proofs.RowReads.{map-0, map-1, map-2}
use Rattle.v04.proofs.maps.V04Maps.span_row.Goals as goal

pub returns-in-0 : goal.returns-in-0
returns-in-0 c =
    let m = c.self.inside in
    let is : c.args.which ≡ 0 = omega arith in
    rw (← c.self.view_is) (c.row_kept.ensures ∙ ap (option_map row_of) (sym (map-0 (maps_of m.meta) (maps_of m.metrics) c.args.row c.args.which c.self.invariant.paired is)))

pub returns-in-1 : goal.returns-in-1
returns-in-1 c =
    let m = c.self.inside in
    let is : c.args.which ≡ 1 = omega arith in
    rw (← c.self.view_is) (c.row_kept-in-1.ensures ∙ ap (option_map row_of) (sym (map-1 (maps_of m.meta) (maps_of m.metrics) c.args.row c.args.which c.self.invariant.paired is)))

pub returns-in_default : goal.returns-in_default
returns-in_default c =
    let m = c.self.inside in
    let is : 2 ≤ c.args.which = omega arith in
    rw (← c.self.view_is) (ap (option_map row_of) (sym (map-2 (maps_of m.meta) (maps_of m.metrics) c.args.row c.args.which is)))
