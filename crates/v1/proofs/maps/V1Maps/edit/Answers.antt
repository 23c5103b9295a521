use Rattle.v1.proofs.Calls.{chunk_edited, span_edited}
use Rattle.v1.proofs.maps.V1Maps.edit.Goals as goal

pub returns-in-Span : goal.returns-in-Span
returns-in-Span g c =
    let t = c.self.inside in
    let call = c.edit in
    rw (← c.self.view_is)
    (span_edited t.spans t.chunks call.new.self call.ensures.shape call.result (g.S.Stock.meaning c.args.stock.now) c.args.edit c.args.owner c.in-Span.row c.in-Span.is c.self.invariant call.ensures.came)

pub returns-in-Chunk : goal.returns-in-Chunk
returns-in-Chunk g c =
    let t = c.self.inside in
    let call = c.edit-in-Chunk in
    rw (← c.self.view_is)
    (chunk_edited t.spans t.chunks call.new.self call.ensures.shape call.result (g.S.Stock.meaning c.args.stock.now) c.args.edit c.args.owner c.in-Chunk.row c.in-Chunk.is call.ensures.came)
