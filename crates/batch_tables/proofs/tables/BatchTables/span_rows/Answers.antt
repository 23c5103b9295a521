use Rattle.std.proofs.Common.{length, sym, ap, ◌∙◌}
use Rattle.batch_tables.specs.Batches.{all_spans}
use Rattle.batch_tables.proofs.Holding.{spans-held}
use Rattle.batch_tables.proofs.tables.BatchTables.span_rows.Goals as goal

pub returns-clause-count : goal.returns-clause-count
returns-clause-count g c = c.len.ensures ∙ c.self.inside.spans.ok.0 ∙ sym (spans-held c.self.invariant) ∙ ap (λ h. length (all_spans h.batch)) c.self.view_is
