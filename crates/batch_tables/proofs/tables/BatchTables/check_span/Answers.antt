use Rattle.std.proofs.Common.{◌<◌, length, ap, ◌∙◌, arith}
use Rattle.batch_tables.specs.Batches.{all_spans}
use Rattle.batch_tables.proofs.Checked.{go_some, stop_full, go_in_room, made_so}
use Rattle.batch_tables.proofs.Holding.{chunks-held, spans-held}
use Rattle.batch_tables.proofs.tables.BatchTables.check_span.Goals as goal

pub returns-then-len-self-clause-comes : goal.returns-then-len-self-clause-comes
returns-then-len-self-clause-comes g c =
    let h = c.args.self.now in
    let some : 0 < length h.batch = omega (arith, ap (λ x. length x.batch) c.self.view_is, chunks-held c.self.invariant, c.self.inside.chunks.ok.0, c.len.ensures, c.if-len-eq0.false) in
    go_some _ h.batch some ∙ stop_full _ _ (length (all_spans h.batch)) h.room.spans (omega (arith, ap (λ x. length (all_spans x.batch)) c.self.view_is, ap (λ x. x.room.spans) c.self.view_is, spans-held c.self.invariant, c.self.inside.spans.ok.0, c.len-2.ensures, c.if-len-self.true))

pub returns-clause-free : goal.returns-clause-free
returns-clause-free g c =
    let h = c.args.self.now in
    let some : 0 < length h.batch = omega (arith, ap (λ x. length x.batch) c.self.view_is, chunks-held c.self.invariant, c.self.inside.chunks.ok.0, c.len.ensures, c.if-len-eq0.false) in
    let free : length (all_spans h.batch) < h.room.spans = omega (arith, ap (λ x. length (all_spans x.batch)) c.self.view_is, ap (λ x. x.room.spans) c.self.view_is, spans-held c.self.invariant, c.self.inside.spans.ok.0, c.len-2.ensures, c.if-len-self.false) in
    made_so c.carried.result (some, free)

pub returns-clause-comes : goal.returns-clause-comes
returns-clause-comes g c =
    let h = c.args.self.now in
    let some : 0 < length h.batch = omega (arith, ap (λ x. length x.batch) c.self.view_is, chunks-held c.self.invariant, c.self.inside.chunks.ok.0, c.len.ensures, c.if-len-eq0.false) in
    let free : length (all_spans h.batch) < h.room.spans = omega (arith, ap (λ x. length (all_spans x.batch)) c.self.view_is, ap (λ x. x.room.spans) c.self.view_is, spans-held c.self.invariant, c.self.inside.spans.ok.0, c.len-2.ensures, c.if-len-self.false) in
    go_some _ h.batch some ∙ go_in_room _ _ (length (all_spans h.batch)) h.room.spans c.check_span.result c.carried.result free c.check_span.ensures c.carried.ensures
