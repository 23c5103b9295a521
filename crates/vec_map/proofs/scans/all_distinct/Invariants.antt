use Rattle.std.proofs.Common.{◌≡◌, length}
use Rattle.vec_map.specs.Entries.{distinct}
use Rattle.vec_map.proofs.scans.all_distinct.Given as goal

-- what is left to look at decides
abbrev pub invariant-loop-rest : goal.invariant-loop-rest
invariant-loop-rest g l = let same = g.S.Sameness.alike l.by in distinct same l.rest ≡ distinct same l.entries

abbrev pub decreases-loop-rest : goal.decreases-loop-rest
decreases-loop-rest g l = length l.rest
