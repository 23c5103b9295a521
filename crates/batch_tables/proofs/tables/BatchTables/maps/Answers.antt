use Rattle.std.proofs.Common.{sym, ap, ◌∙◌}
use Rattle.batch_tables.specs.Reads.{maps_in}
use Rattle.batch_tables.proofs.Holding.{maps-held}
use Rattle.batch_tables.proofs.tables.BatchTables.maps.Goals as goal

pub returns : goal.returns
returns g c = λ o. ap (λ h. maps_in o h.batch) (sym c.self.view_is) ∙ maps-held c.self.invariant o
