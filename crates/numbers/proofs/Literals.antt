-- The floats that the code writes as literals, by their bits.
use Rattle.std.proofs.Common.{◌≡◌, ℕ, true, refl, ap}
use lib.Ieee.{Float, binary64, of_bits, of_int, eq}
use Rattle.numbers.specs.Known.{eight}
use Rattle.numbers.specs.Example.{Example, reading}

-- 8.0
pub of_bits-eight : (b : ℕ) → b ≡ 0x4020_0000_0000_0000 → of_bits binary64 b ≡ eight
unfolding of_bits
of_bits-eight b e = ap (of_bits binary64) e

-- 9007199254740992.0, which is what the worked example reads
pub of_bits-reading : (b : ℕ) → b ≡ 0x4340_0000_0000_0000 → of_bits binary64 b ≡ reading
unfolding of_bits
of_bits-reading b e = ap (of_bits binary64) e

pub example_computes : Example
unfolding of_int
example_computes = (refl, refl)

pub eq_reading : (x y : Float) → x ≡ reading → y ≡ reading → eq x y ≡ true
unfolding eq
eq_reading x y e f = rw (e, f) refl

pub ruleset literals = (of_bits-eight, of_bits-reading, example_computes, eq_reading)
