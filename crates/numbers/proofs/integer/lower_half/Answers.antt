-- The mask gives the lower half, and the two halves make the integer.
use Rattle.std.proofs.Common.{ℤ, pos, sym, ap, subst}
use lib.Ieee.{Float, binary64, of_int}
use Rattle.numbers.specs.Halves.{lower}
use Rattle.numbers.specs.Near.{Exactly}
use Rattle.numbers.proofs.Nearby.{near_integer}
use Rattle.numbers.proofs.Halves.{lower-bits, lower-exactly, halved}
use Rattle.numbers.proofs.integer.lower_half.Goals as goal

pub returns : goal.returns
returns c =
    let n = c.args.n in
    let e = ap (λ (z : ℤ). of_int binary64 z) (lower-bits n c.ranges.n) in
    record {
      value = e;
      exact = subst (λ (x : Float). Exactly x (pos (lower n))) (sym e) (lower-exactly n);
      halves = halved n c.ranges.n;
      near = near_integer n c.ranges.n;
    }
