use Rattle.std.proofs.Common.{sym, ap, ◌∙◌}
use Rattle.map_table.specs.Rows.{maps_of}
use Rattle.span.specs.Readings.{read_in}
use Rattle.v04.proofs.RowReads.{second_at}
use Rattle.v04.proofs.maps.V04Maps.read_float.Goals as goal

pub returns : goal.returns
returns g c =
    let m = c.self.inside in
    rw (← c.self.view_is)
    (c.read_row.ensures ∙ ap (λ o. read_in (g.S.Stock.meaning c.args.stock.now) o c.args.key.now) (sym (second_at (maps_of m.meta) (maps_of m.metrics) c.args.row c.self.invariant.paired)))
