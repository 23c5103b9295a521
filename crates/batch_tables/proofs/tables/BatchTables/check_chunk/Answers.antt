use Rattle.std.proofs.Common.{length, ap, arith}
use Rattle.batch_tables.proofs.Checked.{stop_full, go_in_room, made_so}
use Rattle.batch_tables.proofs.Holding.{chunks-held}
use Rattle.batch_tables.proofs.tables.BatchTables.check_chunk.Goals as goal

pub returns-then-len-self-clause-comes : goal.returns-then-len-self-clause-comes
returns-then-len-self-clause-comes g c = stop_full _ _ _ _ (omega (arith, ap (λ h. length h.batch) c.self.view_is, ap (λ h. h.room.chunks) c.self.view_is, chunks-held c.self.invariant, c.self.inside.chunks.ok.0, c.len.ensures, c.if-len-self.true))

pub returns-clause-free : goal.returns-clause-free
returns-clause-free g c = made_so c.carried.result (omega (arith, ap (λ h. length h.batch) c.self.view_is, ap (λ h. h.room.chunks) c.self.view_is, chunks-held c.self.invariant, c.self.inside.chunks.ok.0, c.len.ensures, c.if-len-self.false))

pub returns-clause-comes : goal.returns-clause-comes
returns-clause-comes g c =
    go_in_room _ _ _ _ c.check_chunk.result c.carried.result
    (omega (arith, ap (λ h. length h.batch) c.self.view_is, ap (λ h. h.room.chunks) c.self.view_is, chunks-held c.self.invariant, c.self.inside.chunks.ok.0, c.len.ensures, c.if-len-self.false)) c.check_chunk.ensures c.carried.ensures
