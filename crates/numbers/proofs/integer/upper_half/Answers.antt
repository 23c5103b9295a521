-- The shift gives the upper half over 2 ^ 32, and its product with 2 ^ 32 is exact.
use Rattle.std.proofs.Common.{sym, subst}
use lib.Ieee.{Float}
use Rattle.numbers.specs.Halves.{upper}
use Rattle.numbers.specs.Near.{Exactly}
use Rattle.numbers.proofs.Halves.{upper-value, upper-exactly}
use Rattle.numbers.proofs.integer.upper_half.Goals as goal

pub returns : goal.returns
returns c =
    let n = c.args.n in
    let e = upper-value n c.ranges.n in
    record { value = e; exact = subst (λ (x : Float). Exactly x (upper n)) (sym e) (upper-exactly n c.ranges.n) }
