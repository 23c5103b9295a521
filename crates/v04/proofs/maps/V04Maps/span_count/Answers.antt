use Rattle.std.proofs.Common.{sym, ◌∙◌}
use Rattle.map_table.specs.Rows.{maps_of}
use Rattle.v04.proofs.Pairs.{length-beside}
use Rattle.v04.proofs.maps.V04Maps.span_count.Goals as goal

pub returns : goal.returns
returns c =
    let m = c.self.inside in
    rw (← c.self.view_is) (c.rows.ensures ∙ sym (length-beside (maps_of m.meta) (maps_of m.metrics) c.self.invariant.paired))
