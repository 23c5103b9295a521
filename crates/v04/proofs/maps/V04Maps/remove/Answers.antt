use Rattle.std.proofs.Common.{sym, subst}
use Rattle.texts.specs.Outcomes.{Came, carry}
use Rattle.texts.specs.Stocks.{same_text}
use Rattle.map_table.specs.declared.table.edits.Edit.TheVariants.{Remove}
use Rattle.map_table.specs.Rows.{maps_of}
use Rattle.vec_map.specs.Maps.{removed}
use Rattle.v04.proofs.Calls.{answered_alike}
use Rattle.v04.proofs.SpanEdits.{remove_both}
use Rattle.span.specs.Tables.{with_spans}
use Rattle.v04.specs.Tables.{v04_table}
use Rattle.v04.proofs.Whole.{with_tables, edited-rows, edited_came}
use Rattle.v04.proofs.maps.V04Maps.remove.Goals as goal

pub edit_both-requires : goal.edit_both-requires
edit_both-requires g c =
    let m = c.self.inside in
    let same = same_text (g.S.Stock.meaning c.args.stock.now) in
    answered_alike _ (removed same c.args.key) (removed same c.args.key) (maps_of m.meta) (maps_of m.metrics) c.args.row c.self.invariant.paired

pub invariant_of-self : goal.invariant_of-self
invariant_of-self g c =
    let call = c.edit_both in
    edited-rows c.self.inside call.new.meta call.new.metrics (g.S.Stock.meaning c.args.stock.now) (Remove c.args.key) (Remove c.args.key) c.args.row call.result call.ensures.texts call.ensures.floats c.self.invariant

pub returns : goal.returns
returns g c =
    let m = c.self.inside in
    let call = c.edit_both in
    let meaning = g.S.Stock.meaning c.args.stock.now in
    rw (← c.self.view_is)
    (subst (λ o. Came (carry (with_spans (v04_table m)) o) (v04_table m) (v04_table (with_tables m call.new.meta call.new.metrics)) call.result) (sym (remove_both (maps_of m.meta) (maps_of m.metrics) c.args.row c.self.invariant.paired (same_text meaning) c.args.key))
    (edited_came m call.new.meta call.new.metrics meaning (Remove c.args.key) (Remove c.args.key) c.args.row call.result call.ensures.texts call.ensures.floats))
