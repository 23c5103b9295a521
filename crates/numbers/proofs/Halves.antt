-- The two halves of an integer of 64 bits are floats exactly, and their sum, rounded once, is the integer's own float.
use Rattle.std.proofs.Common.{◌≡◌, ℕ, suc, ◌-◌, ◌*◌, ◌/◌, ◌%◌, ◌^◌, ◌<◌, ◌≤◌, Bool, true, false, ℤ, pos, negsuc, ◌+ℤ◌, neg_ℤ, sym, refl, ap, ◌∙◌, subst, le_trans, lt_of_lt_of_le, lt_of_le_of_lt, le_of_lt, arith, lit≤, w64, SFits, to_z, of_z}
use lib.Bits.{bit_and, and_mask}
use lib.Pow.{split}
use lib.Signed.{shr_z, mag_shr}
use lib.Ieee.{Float, fin, binary64, round, sum, add, mul, of_int, of_bits}
use lib.Ieee.Exact.{HasValue}
use lib.Ieee.Back.{round_whole}
use Rattle.std.proofs.lemmas.Int.{ints, to_z_pos, to_z-of_z}
use Rattle.numbers.specs.Halves.{upper, lower, Joins, Halved}
use Rattle.numbers.specs.Near.{Exactly}
use Rattle.numbers.proofs.Whole.{to_integer, times_power, plus_whole, sum_below, of_negative, multiple}

-- A number up to 2 ^ 32, with either sign, is a float.
small : (s : Bool) (k : ℕ) → k ≤ 2 ^ 32 → HasValue (round binary64 s k 1) s k 1
small s k h = round_whole binary64 s k (le_trans h (lit≤ tt))

-- ---- the upper half

-- Over 2 ^ 32 the upper half of a negative integer is below 2 ^ 32 in size.
high_lt : (a : ℕ) → a < 2 ^ 63 → suc (a / 2 ^ 32) < 2 ^ 32
high_lt a h = omega arith

-- The upper half of a negative integer is not zero.
upper_pos : (k : ℕ) → 0 < suc k * 2 ^ 32
upper_pos k = omega arith

-- A float up to 2 ^ 32 in size, times 2 ^ 32.
scaled : (s : Bool) (k : ℕ) → k ≤ 2 ^ 32 → mul binary64 (round binary64 s k 1) (fin false 1 (pos 32)) ≡ round binary64 s (k * 2 ^ 32) 1
scaled s k h = times_power binary64 (round binary64 s k 1) s k 32 (small s k h)

-- The shifted integer's float, times 2 ^ 32, is the upper half's.
times : (n : ℤ) → SFits w64 n → mul binary64 (of_int binary64 (shr_z n (2 ^ 32))) (fin false 1 (pos 32)) ≡ of_int binary64 (upper n)
unfolding of_int
times (pos a) h = scaled false (a / 2 ^ 32) (omega (arith, h.sfits))
times (negsuc a) h = scaled true (suc (a / 2 ^ 32)) (le_of_lt (high_lt a h.sfits)) ∙ sym (of_negative binary64 (suc (a / 2 ^ 32) * 2 ^ 32) (upper_pos (a / 2 ^ 32)))

-- The shift as the code computes it, on the bits, is the integer's.
shifted : (n : ℤ) → SFits w64 n → to_z w64 (of_z w64 (shr_z (to_z w64 (of_z w64 n)) (2 ^ 32))) ≡ shr_z n (2 ^ 32)
shifted n h =
    ap (λ (z : ℤ). to_z w64 (of_z w64 (shr_z z (2 ^ 32)))) (to_z-of_z w64 n h)
    ∙ to_z-of_z w64 (shr_z n (2 ^ 32)) (record { sfits = lt_of_le_of_lt (mag_shr n (2 ^ 32)) h.sfits })

-- The product as the code has it, with the bits of 2 ^ 32.
abbrev pub product : ℤ → Float
product n = mul binary64 (of_int binary64 (to_z w64 (of_z w64 (shr_z (to_z w64 (of_z w64 n)) (2 ^ 32))))) (of_bits binary64 0x41f0_0000_0000_0000)

-- The product is the upper half's float.
pub upper-value : (n : ℤ) → SFits w64 n → product n ≡ of_int binary64 (upper n)
unfolding of_bits
upper-value n h = ap (λ (z : ℤ). mul binary64 (of_int binary64 z) (of_bits binary64 0x41f0_0000_0000_0000)) (shifted n h) ∙ times n h

-- The upper half's float is exactly the upper half.
pub upper-exactly : (n : ℤ) → SFits w64 n → Exactly (of_int binary64 (upper n)) (upper n)
unfolding of_int
upper-exactly (pos a) h = let k = a / 2 ^ 32 * 2 ^ 32 in to_integer (round binary64 false k 1) false k (multiple false (a / 2 ^ 32) (omega (arith, h.sfits)))
upper-exactly (negsuc a) h =
    let k = suc (a / 2 ^ 32) * 2 ^ 32 in
    subst (λ (x : Float). Exactly x (neg_ℤ (pos k))) (sym (of_negative binary64 k (upper_pos (a / 2 ^ 32)))) (to_integer (round binary64 true k 1) true k (multiple true (suc (a / 2 ^ 32)) (high_lt a h.sfits)))

-- ---- the lower half

-- The lower half is below 2 ^ 32.
lower-lt : (n : ℤ) → lower n < 2 ^ 32
lower-lt (pos a) = omega arith
lower-lt (negsuc a) = omega arith

-- The lower half is a float.
lower-small : (n : ℤ) → HasValue (round binary64 false (lower n) 1) false (lower n) 1
lower-small n = small false (lower n) (le_of_lt (lower-lt n))

-- The lower half's float is exactly the lower half.
pub lower-exactly : (n : ℤ) → Exactly (of_int binary64 (pos (lower n))) (pos (lower n))
unfolding of_int
lower-exactly n = to_integer (round binary64 false (lower n) 1) false (lower n) (lower-small n)

-- The low 32 bits of the integer are the lower half.
low_bits : (n : ℤ) → SFits w64 n → of_z w64 n % 2 ^ 32 ≡ lower n
low_bits (pos a) h = refl
low_bits (negsuc a) h = omega (arith, h.sfits)

-- The mask as the code has it gives the lower half.
pub lower-bits : (n : ℤ) → SFits w64 n → to_z w64 (bit_and (of_z w64 n) (2 ^ 32 - 1)) ≡ pos (lower n)
lower-bits n h =
    ap (to_z w64) (and_mask (of_z w64 n) 32 ∙ low_bits n h) ∙ to_z_pos w64 (lower n) (lt_of_lt_of_le (lower-lt n) (lit≤ tt))

-- ---- the two together

-- The halves make the integer.
pub wholly : (n : ℤ) → upper n +ℤ pos (lower n) ≡ n
wholly (pos a) = ap pos (split a 32)
wholly (negsuc a) = omega (arith, ints)

-- Of a negative integer the lower half is less than the upper one's size.
lower-less : (a : ℕ) → lower (negsuc a) < suc (a / 2 ^ 32) * 2 ^ 32
lower-less a = omega arith

-- The upper half's size less the lower half is the negative integer's size.
difference : (a : ℕ) → suc (a / 2 ^ 32) * 2 ^ 32 - lower (negsuc a) ≡ suc a
difference a = omega arith

-- The floats of the halves add up to the integer's float.
pub joins : (n : ℤ) → SFits w64 n → Joins n
unfolding of_int sum
joins (pos a) h =
    let k = a / 2 ^ 32 * 2 ^ 32 in
    let l = a % 2 ^ 32 in
    plus_whole binary64 (round binary64 false k 1) (round binary64 false l 1) false false k l (multiple false (a / 2 ^ 32) (omega (arith, h.sfits))) (lower-small (pos a))
    ∙ (cc (split a 32))
joins (negsuc a) h =
    let k = suc (a / 2 ^ 32) * 2 ^ 32 in
    let l = lower (negsuc a) in
    ap (λ (x : Float). add binary64 x (of_int binary64 (pos l))) (of_negative binary64 k (upper_pos (a / 2 ^ 32)))
    ∙ plus_whole binary64 (round binary64 true k 1) (round binary64 false l 1) true false k l (multiple true (suc (a / 2 ^ 32)) (high_lt a h.sfits)) (lower-small (negsuc a))
    ∙ sum_below binary64 k l (lower-less a)
    ∙ (cc (difference a))

-- all of it together
pub halved : (n : ℤ) → SFits w64 n → Halved n
halved n h = record { whole = wholly n; upper_exact = upper-exactly n h; lower_exact = lower-exactly n; joins = joins n h }
