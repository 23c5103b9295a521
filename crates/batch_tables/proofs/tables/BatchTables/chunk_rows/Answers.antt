use Rattle.std.proofs.Common.{length, sym, ap, ◌∙◌}
use Rattle.batch_tables.proofs.Holding.{chunks-held}
use Rattle.batch_tables.proofs.tables.BatchTables.chunk_rows.Goals as goal

pub returns-clause-count : goal.returns-clause-count
returns-clause-count g c = c.len.ensures ∙ c.self.inside.chunks.ok.0 ∙ sym (chunks-held c.self.invariant) ∙ ap (λ h. length h.batch) c.self.view_is
