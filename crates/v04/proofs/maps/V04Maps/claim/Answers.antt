use Rattle.std.proofs.Common.{Some, sym, ap, ◌∙◌, subst}
use Rattle.texts.specs.Outcomes.{Came, carry}
use Rattle.texts.specs.Stocks.{same_text}
use Rattle.map_table.specs.declared.table.edits.Edit.TheVariants.{Claim}
use Rattle.map_table.specs.Rows.{maps_of}
use Rattle.span.specs.Edits.{all_distinct, claim_all}
use Rattle.v04.proofs.SpanEdits.{claim_both, claim_missing, claim_twice, claim_alike}
use Rattle.span.specs.Tables.{Table, with_spans}
use Rattle.std.specs.Option.{option_map}
use Rattle.vec_map.specs.Entries.{entry_at}
use Rattle.v04.specs.Tables.{v04_table}
use Rattle.v04.proofs.Whole.{refused-came, with_tables, edited-rows, edited_came}
use Rattle.v04.proofs.maps.V04Maps.claim.Goals as goal

pub returns-in_default : goal.returns-in_default
returns-in_default g c =
    let t = c.args.self.now in
    let same = same_text (g.S.Stock.meaning c.args.stock.now) in
    refused-came _ t _ (ap (carry (with_spans t)) (claim_missing (all_distinct same) _ (claim_all same) t.spans c.args.row c.in_default.ensures))

pub returns-then-not-distinct : goal.returns-then-not-distinct
returns-then-not-distinct g c =
    let t = c.args.self.now in
    let same = same_text (g.S.Stock.meaning c.args.stock.now) in
    refused-came _ t _ (ap (carry (with_spans t)) (claim_twice same t.spans c.args.row (ap Some (sym c.if-not-distinct.true) ∙ c.in-Some.ensures)))

pub edit_both-requires : goal.edit_both-requires
edit_both-requires g c =
    let m = c.self.inside in
    let same = same_text (g.S.Stock.meaning c.args.stock.now) in
    claim_alike same (maps_of m.meta) (maps_of m.metrics) c.args.row c.self.invariant.paired (ap Some (sym c.if-not-distinct.false) ∙ c.in-Some.ensures ∙ ap (λ (t : Table). option_map (all_distinct same) (entry_at t.spans c.args.row)) (sym c.self.view_is))

pub invariant_of-self : goal.invariant_of-self
invariant_of-self g c =
    let call = c.edit_both in
    edited-rows c.self.inside call.new.meta call.new.metrics (g.S.Stock.meaning c.args.stock.now) Claim Claim c.args.row call.result call.ensures.texts call.ensures.floats c.self.invariant

pub returns : goal.returns
returns g c =
    let m = c.self.inside in
    let call = c.edit_both in
    let meaning = g.S.Stock.meaning c.args.stock.now in
    rw (← c.self.view_is)
    (subst (λ o. Came (carry (with_spans (v04_table m)) o) (v04_table m) (v04_table (with_tables m call.new.meta call.new.metrics)) call.result) (sym (claim_both (maps_of m.meta) (maps_of m.metrics) c.args.row c.self.invariant.paired (same_text meaning)))
    (edited_came m call.new.meta call.new.metrics meaning Claim Claim c.args.row call.result call.ensures.texts call.ensures.floats))
