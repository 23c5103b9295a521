-- The float nearest to an integer of 64 bits lies at most 512 from it.
use Rattle.std.proofs.Common.{◌≡◌, ℕ, suc, ◌+◌, ◌-◌, ◌*◌, ◌/◌, ◌%◌, ◌^◌, ◌<◌, ◌≤◌, Bool, true, false, ℤ, pos, negsuc, neg_ℤ, sym, refl, subst, inl, inr, lt_of_lt_of_le, le_of_lt, mul-le-mul_right, mod-lt, zero-lt-suc, mul-pos, div-add-mod', div-one, arith, lit≤, pow_pos, pow_mono, pow-add, shl_lt, w64, SFits}
use Prim.Native.Nat.{compare, Ordering}
use native.Mathlib.Nat.{eq_of_mul-eq-mul_right}
use native.Mathlib.Omega.{compare-lt, compare-eq, compare-gt}
use lib.Ieee.{Float, nan, inf, fin, binary64, up, down, nearest, size, units, round, of_int}
use lib.Ieee.Back.{round_whole}
use lib.Ieee.Digits.{size-lt, size-le}
use lib.Ieee.Exact.{HasValue, units_val}
use lib.Ieee.Fits.{round_is, nearest-le}
use lib.Ieee.Nearest.{closest, closest_same, nearest-ge}
use Rattle.std.proofs.lemmas.Int.{ints}
use Rattle.std.proofs.lemmas.Bool.{cases_lt}
use Rattle.numbers.specs.Near.{Near}
use Rattle.numbers.proofs.Whole.{to_integer, multiple}

-- ---- the nearest multiple

-- The number c, times b, lies at most half of b from a.
record Half (a b c : ℕ) : Type 0 where
  short : 2 * a ≤ 2 * (c * b) + b
  long : 2 * (c * b) ≤ 2 * a + b

-- The quotient that rounding picks is such a c, whichever way twice the remainder compares with b.
picked : (a b : ℕ) (o : Ordering) → 0 < b → compare (a % b * 2) b ≡ o → Half a b (nearest (a / b) o)
picked a b Ordering.lt z h = let d = div-add-mod' a b in let l = compare-lt (a % b * 2) b h in record { short = omega arith; long = omega arith }
picked a b Ordering.eq z h =
    let d = div-add-mod' a b in
    let e = compare-eq (a % b * 2) b h in
    let l = mul-le-mul_right b (nearest-ge (a / b) Ordering.eq) in
    let m = mul-le-mul_right b (nearest-le (a / b) Ordering.eq) in
    record { short = omega arith; long = omega arith }
picked a b Ordering.gt z h = let d = div-add-mod' a b in let l = compare-gt (a % b * 2) b h in let m = mod-lt a z in record { short = omega arith; long = omega arith }

-- A float that is the fraction k * c over c is the whole number k.
reduced : (x : Float) (s : Bool) (k c : ℕ) → 0 < c → HasValue x s (k * c) c → HasValue x s k 1
reduced nan s k c h v = elim v [ ]
reduced (inf _) s k c h v = elim v [ ]
reduced (fin t m e) s k c h (p, q) = (p, eq_of_mul-eq-mul_right c h (m * up e * 1) (k * down e) (omega arith))

-- ---- the float of a natural number

-- x is a whole number of the sign s, and its size is at most 512 from n.
record Close (x : Float) (s : Bool) (n : ℕ) : Type 0 where
  at : ℕ
  is : HasValue x s at 1
  least : n ≤ at + 512
  most : at ≤ n + 512

-- A number of 2 ^ i or more, moved up by l places, has more than i + l binary digits.
digits_least : (n i l : ℕ) → 2 ^ i ≤ n → i + l < size (n * 2 ^ l)
digits_least n i l h =
    elim (cases_lt (i + l) (size (n * 2 ^ l))) [
      | inl g ↦ g
      | inr g ↦ omega (arith, size-lt (n * 2 ^ l), pow_mono g, pow-add 2 i l, mul-le-mul_right (2 ^ l) h)
    ]

-- A number below 2 ^ i, moved up by l places, has at most i + l.
digits_most : (n i l : ℕ) → n < 2 ^ i → size (n * 2 ^ l) ≤ i + l
digits_most n i l h = size-le (n * 2 ^ l) (i + l) (shl_lt i l h)

-- A number moved up by j places and then by l is moved up by j + l.
unsplit : (c j l : ℕ) → c * 2 ^ j * 2 ^ l ≡ c * 2 ^ (j + l)
unsplit c j l = rw pow-add (omega arith)

-- To move n up by l places and then to round j + l of them off is to round j places of n off.
same_place : (n j l : ℕ) → closest (n * 2 ^ l) (1 * 2 ^ (j + l)) ≡ closest n (2 ^ j)
same_place n j l =
    closest_same (n * 2 ^ l) (1 * 2 ^ (j + l)) n (2 ^ j) (mul-pos (zero-lt-suc 0) (pow_pos (j + l))) (pow_pos j) (rw pow-add (omega arith))

-- A number below 2 ^ 63 of which at most ten places are rounded off becomes a whole number at most 512 from it.
dropped : (s : Bool) (n j : ℕ) → n < 2 ^ 63 → j ≤ 10 → Close (units binary64 s (closest (n * 2 ^ 1074) (1 * 2 ^ (j + 1074))) (j + 1074)) s n
dropped s n j h d =
    let c = closest n (2 ^ j) in
    let w : Half n (2 ^ j) c = picked n (2 ^ j) (compare (n % 2 ^ j * 2) (2 ^ j)) (pow_pos j) refl in
    let t : 2 ^ j ≤ 2 ^ 10 = pow_mono d in
    let k : c * 2 ^ j < 2 ^ 64 = omega arith in
    let r : c * 2 ^ j * 2 ^ 1074 ≡ c * 2 ^ (j + 1074) = unsplit c j 1074 in
    let v = units_val binary64 s c (j + 1074) (subst (λ (z : ℕ). z < 2 ^ 2098) r (lt_of_lt_of_le (shl_lt 64 1074 k) (lit≤ tt))) in
    subst (λ (q : ℕ). Close (units binary64 s q (j + 1074)) s n) (sym (same_place n j 1074)) (record {
      at = c * 2 ^ j;
      is = reduced (units binary64 s c (j + 1074)) s (c * 2 ^ j) (2 ^ 1074) (pow_pos 1074) (subst (λ (z : ℕ). HasValue (units binary64 s c (j + 1074)) s z (2 ^ 1074)) (sym r) v);
      least = omega arith;
      most = omega arith;
    })

-- The float nearest to a number from 2 ^ 53 up and below 2 ^ 63 is whole, and at most 512 from it.
large : (s : Bool) (n : ℕ) → 2 ^ 53 ≤ n → n < 2 ^ 63 → Close (round binary64 s n 1) s n
large s n l h =
    let k = size (n * 2 ^ 1074 / 1) - 53 in
    let a : 1127 < size (n * 2 ^ 1074 / 1) = rw div-one (digits_least n 53 1074 l) in
    let b : size (n * 2 ^ 1074 / 1) ≤ 1137 = rw div-one (digits_most n 63 1074 h) in
    let e : k - 1074 + 1074 ≡ k = omega arith in
    subst (λ (x : Float). Close x s n) (sym (round_is binary64 s n 1)) (subst (λ (z : ℕ). Close (units binary64 s (closest (n * 2 ^ 1074) (1 * 2 ^ z)) z) s n) e (dropped s n (k - 1074) h (omega arith)))

-- So is the float nearest to any number up to 2 ^ 63, with either sign: it is the number itself below 2 ^ 53, and at 2 ^ 63.
close : (s : Bool) (n : ℕ) → n ≤ 2 ^ 63 → Close (round binary64 s n 1) s n
close s n h =
    elim (cases_lt n (2 ^ 53)) [
      | inl l ↦ record { at = n; is = round_whole binary64 s n (le_of_lt l); least = omega arith; most = omega arith }
      | inr l ↦ elim (cases_lt n (2 ^ 63)) [
        | inl g ↦ large s n l g
        | inr g ↦ let e : 2 ^ 63 ≡ n = omega arith in subst (λ (z : ℕ). Close (round binary64 s z 1) s z) e (record { at = 2 ^ 63; is = multiple s (2 ^ 31) (lit≤ tt); least = omega arith; most = omega arith })
      ]
    ]

-- ---- the float of an integer

-- The float nearest to an integer of 64 bits lies near it.
pub near_integer : (n : ℤ) → SFits w64 n → (x : Float) → x ≡ of_int binary64 n → Near x n
unfolding of_int
near_integer (pos a) h x e =
    let c = close false a (le_of_lt h.sfits) in
    rw e (record { whole = pos c.at; exactly = to_integer (round binary64 false a 1) false c.at c.is; least = omega (arith, ints, c.least); most = omega (arith, ints, c.most) })
near_integer (negsuc a) h x e =
    let c = close true (suc a) h.sfits in
    rw e (record { whole = neg_ℤ (pos c.at); exactly = to_integer (round binary64 true (suc a) 1) true c.at c.is; least = omega (arith, ints, c.least, c.most); most = omega (arith, ints, c.most) })
