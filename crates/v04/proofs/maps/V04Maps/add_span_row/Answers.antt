use Rattle.std.proofs.Common.{subst, sym}
use Rattle.texts.specs.Outcomes.{Came}
use Rattle.map_table.specs.Rows.{maps_of, row_added}
use Rattle.span.specs.Tables.{with_spans}
use Rattle.v04.specs.Tables.{v04_table}
use Rattle.v04.proofs.Whole.{with_tables, both_came, added_alike, added_both}
use Rattle.v04.proofs.maps.V04Maps.add_span_row.Goals as goal

pub returns : goal.returns
returns c =
    let m = c.self.inside in
    let same = c.self.invariant in
    let ms = maps_of m.meta in
    let ns = maps_of m.metrics in
    let m' = with_tables m c.add_row-told.new.self c.add_row.new.self in
    rw (← c.self.view_is)
    (subst (λ o. Came o (v04_table m) (v04_table m') c.add_row-told.result) (sym (added_both (with_spans (v04_table m)) m.meta.room m.metrics.room ms ns same.paired same.rooms))
    (both_came m _ _ (row_added m.meta.room ms) (row_added m.metrics.room ns) _ _ _ _ (added_alike m.meta.room m.metrics.room ms ns same.paired same.rooms) c.add_row-told.ensures c.add_row.ensures))
