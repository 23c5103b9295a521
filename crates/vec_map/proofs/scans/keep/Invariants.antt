use Rattle.std.proofs.Common.{◌≡◌, ◌≤◌, Bool, List}
use Rattle.vec_map.proofs.Moves.{Moving}
use Rattle.vec_map.proofs.scans.keep.Given as goal

-- what is kept of the first i stands in front, for any test that the calls compute
abbrev pub invariant-loop-i : goal.invariant-loop-i
invariant-loop-i g l =
    goal.F-IsAlwaysCallable g l.wanted
    × (l.moved ≤ l.i)
    × ((test : List g.row.X.Denot → g.row.X.Denot → Bool) → ((kept : _) (x : _) (r : Bool) → goal.F-post g l.wanted kept x r → r ≡ test kept.now x.now) → Moving test l.initial.items l.items l.moved l.i)
