use Rattle.std.proofs.Common.{◌≡◌, eqb, drop}
use Rattle.batch_tables.specs.Limits.{total}
use Rattle.batch_tables.proofs.tables.handing.adds_up.Given as goal

-- what is left to count decides
abbrev pub invariant-loop-chunk : goal.invariant-loop-chunk
invariant-loop-chunk g l = eqb (total (drop l.chunk-index l.chunks)) l.rest ≡ eqb (total l.chunks) l.spans
