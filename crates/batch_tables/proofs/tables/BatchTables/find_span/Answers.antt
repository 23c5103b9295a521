use Rattle.std.proofs.Common.{length, vec_items, sym, refl, ap, ◌∙◌, arith}
use Rattle.span.specs.declared.owner.Owner.TheVariants as at
use Rattle.batch_tables.specs.Batches.{all_spans, edit_batch}
use Rattle.batch_tables.specs.Held.{held}
use Rattle.batch_tables.specs.Queries.{query_batch}
use Rattle.batch_tables.proofs.Holding.{spans-held}
use Rattle.batch_tables.proofs.Missing.{edit_no_span, query_no_span}
use Rattle.batch_tables.proofs.tables.BatchTables.find_span.Goals as goal

pub returns-then-place-len-clause-edits : goal.returns-then-place-len-clause-edits
returns-then-place-len-clause-edits g c = λ t e.
    let b = c.self.inside in
    let T = g.E.Edition.table b.maps in
    let v = g.E.Edition.shown in
    let cs = vec_items b.chunks in
    let fs = vec_items b.spans in
    let h = held cs fs b.stride b.room T in
    ap (edit_batch v t e (at.Span c.args.place)) (sym c.self.view_is)
    ∙ edit_no_span v t e h cs T.chunks T.spans fs refl c.args.place c.self.invariant.adds (omega (arith, b.spans.ok.0, c.len.ensures, c.if-place-len.true))

pub returns-then-place-len-clause-asks : goal.returns-then-place-len-clause-asks
returns-then-place-len-clause-asks g c = λ t q.
    let b = c.self.inside in
    let v = g.E.Edition.shown in
    let h = held (vec_items b.chunks) (vec_items b.spans) b.stride b.room (g.E.Edition.table b.maps) in
    ap (query_batch v t c.args.place q) (sym c.self.view_is)
    ∙ query_no_span v t q h c.args.place (omega (arith, spans-held c.self.invariant, b.spans.ok.0, c.len.ensures, c.if-place-len.true))

pub returns-clause-there : goal.returns-clause-there
returns-clause-there g c = omega (arith, ap (λ h. length (all_spans h.batch)) c.self.view_is, spans-held c.self.invariant, c.self.inside.spans.ok.0, c.len.ensures, c.if-place-len.false)
