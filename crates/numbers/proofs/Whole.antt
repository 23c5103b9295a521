-- Floats that are whole numbers. `HasValue x s k 1` says that x is the number k with the sign s, negative where s is true.
use Rattle.std.proofs.Common.{◌≡◌, ℕ, zero, suc, ◌+◌, ◌-◌, ◌*◌, ◌^◌, ◌<◌, Bool, true, false, ltb, pos, ◌*ℤ◌, neg_ℤ, sym, refl, ap, ◌∙◌, inl, inr, lt_of_lt_of_le, le_of_lt, mul-le-mul_right, zero-lt-suc, mul-lt-mul_of_pos_right, mul-pos, zero-mul, arith, lit≤, shl_lt}
use native.Mathlib.Nat.{mul-sub}
use lib.IntN.{pos-*ℤ-pos, negsuc-*ℤ-pos}
use lib.Ieee.{Float, nan, inf, fin, Format, binary64, unlike, up, down, round, sum, add, mul, of_int}
use lib.Ieee.Exact.{HasValue, round_exact}
use lib.Ieee.Scale.{round_same}
use lib.Ieee.Fits.{down_pos}
use Rattle.std.proofs.lemmas.Bool.{cases_lt, lt-ltb, le-ltb}
use Rattle.numbers.specs.Near.{signed, Exactly}

-- A signed number times a natural one: the size is multiplied, and the sign stays.
signed-times : (s : Bool) (k d : ℕ) → signed s k *ℤ pos d ≡ signed s (k * d)
signed-times false k d = pos-*ℤ-pos k d
signed-times true zero d = rw zero-mul
signed-times true (suc k) d = negsuc-*ℤ-pos k d

-- A float that is the number k with the sign s is exactly the integer of that sign and size.
pub to_integer : (x : Float) (s : Bool) (k : ℕ) → HasValue x s k 1 → Exactly x (signed s k)
to_integer nan s k h = elim h [ ]
to_integer (inf _) s k h = elim h [ ]
to_integer (fin t m e) s k (p, q) = rw (signed-times, p) (ap (signed s) (omega arith))

-- A positive factor leaves every sign as it is.
unlike_plus : (t : Bool) → unlike t false ≡ t
unlike_plus false = refl
unlike_plus true = refl

-- A float that is a whole number, times 2 ^ k: the product of the two numbers, rounded.
pub times_power : (f : Format) (x : Float) (s : Bool) (a k : ℕ) → HasValue x s a 1 → mul f x (fin false 1 (pos k)) ≡ round f s (a * 2 ^ k) 1
unfolding mul
times_power f nan s a k h = elim h [ ]
times_power f (inf _) s a k h = elim h [ ]
times_power f (fin t m e) s a k (p, q) =
    rw (unlike_plus, p) (round_same f s (m * up e * (1 * 2 ^ k)) (down e * 1) (a * 2 ^ k) 1 (mul-pos (down_pos e) (zero-lt-suc 0)) (zero-lt-suc 0) (omega (arith, ap (λ (z : ℕ). z * 2 ^ k) q)))

-- A common factor changes no comparison.
ltb_factor : (a b c : ℕ) → 0 < c → ltb (a * c) (b * c) ≡ ltb a b
ltb_factor a b c h =
    elim (cases_lt a b) [
      | inl l ↦ lt-ltb (a * c) (b * c) (mul-lt-mul_of_pos_right l h) ∙ sym (lt-ltb a b l)
      | inr l ↦ le-ltb (a * c) (b * c) (mul-le-mul_right c l) ∙ sym (le-ltb a b l)
    ]

-- Two fractions over c that are the whole numbers a and b have the sum that a and b have.
sum-whole : (f : Format) (s t : Bool) (a b c : ℕ) → 0 < c → sum f s (a * c) t (b * c) c ≡ sum f s a t b 1
unfolding sum
sum-whole f s t a b c h =
    let up : round f s (a * c + b * c) c ≡ round f s (a + b) 1 = round_same f s (a * c + b * c) c (a + b) 1 h (zero-lt-suc 0) (omega arith) in
    let over : round f t (b * c - a * c) c ≡ round f t (b - a) 1 = round_same f t (b * c - a * c) c (b - a) 1 h (zero-lt-suc 0) (omega (arith, mul-sub c b a)) in
    let under : (u : Bool) → round f u (a * c - b * c) c ≡ round f u (a - b) 1 = λ u. round_same f u (a * c - b * c) c (a - b) 1 h (zero-lt-suc 0) (omega (arith, mul-sub c a b)) in
    cc (up, over, under _, ltb_factor a b c h, ltb_factor b a c h)

-- The sum of two floats that are whole numbers is the sum of the numbers, rounded.
pub plus_whole : (f : Format) (x y : Float) (s t : Bool) (a b : ℕ) → HasValue x s a 1 → HasValue y t b 1 → add f x y ≡ sum f s a t b 1
unfolding add
plus_whole f nan y s t a b h _ = elim h [ ]
plus_whole f (inf _) y s t a b h _ = elim h [ ]
plus_whole f (fin _ _ _) nan s t a b _ h = elim h [ ]
plus_whole f (fin _ _ _) (inf _) s t a b _ h = elim h [ ]
plus_whole f (fin s1 m e) (fin t1 n d) s t a b (p, q) (u, v) =
    let A : m * up e * down d ≡ a * (down e * down d) = omega (arith, ap (λ (z : ℕ). z * down d) q) in
    let B : n * up d * down e ≡ b * (down e * down d) = omega (arith, ap (λ (z : ℕ). z * down e) v) in
    rw (A, B, p, u) (sum-whole f s t a b (down e * down d) (mul-pos (down_pos e) (down_pos d)))

-- A sum of a negative number and a smaller positive one is negative, of the size that the two differ by.
pub sum_below : (f : Format) (a b : ℕ) → b < a → sum f true a false b 1 ≡ round f true (a - b) 1
unfolding sum
sum_below f a b h = cc (le-ltb a b (le_of_lt h), lt-ltb b a h)

-- The float of a negative integer is its size, rounded with that sign.
pub of_negative : (f : Format) (k : ℕ) → 0 < k → of_int f (neg_ℤ (pos k)) ≡ round f true k 1
unfolding of_int
of_negative f zero h = let z : ⊥ = omega arith in elim z [ ]
of_negative f (suc k) h = refl

-- One product, its factors put together in two ways.
regroup : (a b c d : ℕ) → b * c ≡ d → a * b * c ≡ a * d * 1
regroup a b c d e = omega (arith, ap (λ (z : ℕ). a * z) e)

-- A multiple of 2 ^ 32 below 2 ^ 64, with either sign, is a float.
pub multiple : (s : Bool) (a : ℕ) → a < 2 ^ 32 → HasValue (round binary64 s (a * 2 ^ 32) 1) s (a * 2 ^ 32) 1
multiple s a h = round_exact binary64 s (a * 2 ^ 32) 1 a 1106 (zero-lt-suc 0) (omega arith) (lt_of_lt_of_le (shl_lt 32 1106 h) (lit≤ tt)) (regroup a (2 ^ 32) (2 ^ 1074) (2 ^ 1106) refl)
