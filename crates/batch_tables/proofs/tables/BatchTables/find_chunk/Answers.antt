use Rattle.std.proofs.Common.{length, vec_items, sym, refl, ap, ◌∙◌, arith}
use Rattle.span.specs.declared.owner.Owner.TheVariants as at
use Rattle.batch_tables.specs.Batches.{edit_batch}
use Rattle.batch_tables.specs.Held.{held}
use Rattle.batch_tables.proofs.Holding.{chunks-held}
use Rattle.batch_tables.proofs.Missing.{edit_no_chunk}
use Rattle.batch_tables.proofs.tables.BatchTables.find_chunk.Goals as goal

pub returns-then-place-len-clause-edits : goal.returns-then-place-len-clause-edits
returns-then-place-len-clause-edits g c = λ t e.
    let b = c.self.inside in
    let T = g.E.Edition.table b.maps in
    let v = g.E.Edition.shown in
    let cs = vec_items b.chunks in
    let fs = vec_items b.spans in
    let h = held cs fs b.stride b.room T in
    ap (edit_batch v t e (at.Chunk c.args.place)) (sym c.self.view_is)
    ∙ edit_no_chunk v t e h cs T.chunks T.spans fs refl c.args.place (omega (arith, b.chunks.ok.0, c.len.ensures, c.if-place-len.true))

pub returns-clause-there : goal.returns-clause-there
returns-clause-there g c = omega (arith, ap (λ h. length h.batch) c.self.view_is, chunks-held c.self.invariant, c.self.inside.chunks.ok.0, c.len.ensures, c.if-place-len.false)
