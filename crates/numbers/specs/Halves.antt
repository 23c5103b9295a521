-- The two halves of an integer: a multiple of 2 ^ 32, and what the integer lies above it, which is below 2 ^ 32. `negsuc a` is -(a + 1).
use Rattle.std.specs.Prelude.{◌≡◌, ℕ, suc, ◌-◌, ◌*◌, ◌/◌, ◌%◌, ◌^◌, ℤ, pos, negsuc, ◌+ℤ◌, neg_ℤ}
use Rattle.std.specs.Float.{binary64}
use Rattle.std.specs.Float.Ieee.{add, of_int}
use Rattle.numbers.specs.Near.{Exactly}

-- the multiple of 2 ^ 32 that is n or next below n
abbrev pub upper : ℤ → ℤ
upper (pos a) = pos (a / 2 ^ 32 * 2 ^ 32)
upper (negsuc a) = neg_ℤ (pos (suc (a / 2 ^ 32) * 2 ^ 32))

-- how far n lies above it
abbrev pub lower : ℤ → ℕ
lower (pos a) = a % 2 ^ 32
lower (negsuc a) = 2 ^ 32 - suc (a % 2 ^ 32)

-- The sum of the halves as floats, rounded once, is the float nearest to n.
abbrev pub Joins : ℤ → Type 0
Joins n = add binary64 (of_int binary64 (upper n)) (of_int binary64 (pos (lower n))) ≡ of_int binary64 n

-- The halves make n, each is a float exactly, and so only their sum rounds.
pub record Halved (n : ℤ) : Type 0 where
  pub whole : upper n +ℤ pos (lower n) ≡ n
  pub upper_exact : Exactly (of_int binary64 (upper n)) (upper n)
  pub lower_exact : Exactly (of_int binary64 (pos (lower n))) (pos (lower n))
  pub joins : Joins n
