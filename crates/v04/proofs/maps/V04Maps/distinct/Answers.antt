use Rattle.std.proofs.Common.{sym, ap, ◌∙◌}
use Rattle.texts.specs.Stocks.{same_text}
use Rattle.map_table.specs.Rows.{maps_of}
use Rattle.v04.specs.Edits.{and_both}
use Rattle.v04.proofs.SpanEdits.{distinct-at}
use Rattle.v04.proofs.maps.V04Maps.distinct.Goals as goal

pub returns : goal.returns
returns g c =
    let m = c.self.inside in
    rw (← c.self.view_is)
    (c.both_true.ensures
    ∙ ap (λ o. and_both o c.row_distinct-2.result) c.row_distinct.ensures
    ∙ ap (and_both _) c.row_distinct-2.ensures
    ∙ sym (distinct-at (same_text (g.S.Stock.meaning c.args.stock.now)) (maps_of m.meta) (maps_of m.metrics) c.args.row c.self.invariant.paired))
