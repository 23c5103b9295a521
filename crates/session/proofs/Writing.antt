-- A number that is written reads back as itself, and its word has no byte up to the space.
use Rattle.std.proofs.Common.{◌≡◌, ℕ, zero, suc, ◌+◌, ◌-◌, ◌*◌, ◌/◌, ◌%◌, ◌^◌, ◌<◌, ◌≤◌, true, false, cond, ◌&&◌, eqb, List, [], ◌∷◌, ◌++◌, length, ℤ, pos, negsuc, neg_ℤ, is_some, Some, None, decimal, unwrap_or, refl, ap, ◌∙◌, subst, ⊎_elim, pow-suc, arith}
use lib.Signed.{mag}
use Rattle.std.proofs.lemmas.Nat.{div_below, mod_below, div-add-mod'}
use Rattle.std.proofs.lemmas.Fmt.{decimal_by_steps, decimal_nonempty}
use Rattle.std.proofs.lemmas.List.{length_push}
use Rattle.std.proofs.lemmas.Bool.{le-leb, lt-ltb, cases_Bool, eqb-true}
use Rattle.std.proofs.lemmas.Bool.Decides.{nat_tests}
use Rattle.std.specs.Option.{option_map}
use Rattle.std.specs.Char.{digit_char}
use Rattle.std.specs.Fmt.{signed_decimal}
use Rattle.session.specs.Lines.{unspaced, past_mark}
use Rattle.session.specs.Numerals.{at_most, digit_of, numeral, number_of, unsigned_of, signed_of, hexes, float_word, float_of}
use Rattle.session.proofs.Lines.{unspaced-append}

-- one more digit at the end
numeral-push : (base n : ℕ) (cs : List ℕ) (m c d : ℕ) → numeral base n cs ≡ Some m → digit_of base c ≡ Some d → numeral base n (cs ++ c ∷ []) ≡ Some (m * base + d)
numeral-push base n [] m c d front last =
    ap (λ o. cond (is_some o) (Some (n * base + unwrap_or o 0)) None) last ∙ ap (λ k. Some (k * base + d)) (let e : n ≡ m = cc in e)
numeral-push base n (b ∷ cs) m c d front last =
    elim (digit_of base b) as (λ o. cond (is_some o) (numeral base (n * base + unwrap_or o 0) cs) None ≡ Some m → cond (is_some o) (numeral base (n * base + unwrap_or o 0) (cs ++ c ∷ [])) None ≡ Some (m * base + d)) [
      | None ↦ λ none. absurd (let z : ◌≡◌ {A = ℕ} 0 1 = cc in omega arith)
      | Some w ↦ λ more. numeral-push base (n * base + w) cs m c d more last
    ] front

digit_ten : (d : ℕ) → d < 10 → digit_of 10 (48 + d) ≡ Some d
digit_ten d lt = grind (arith, nat_tests)

digit_sixteen : (d : ℕ) → d < 16 → digit_of 16 (digit_char d) ≡ Some d
digit_sixteen d lt = grind (arith, nat_tests)

digit_visible : (d : ℕ) → 32 < digit_char d
digit_visible d = grind (arith, nat_tests)

-- digits that count n, and that stand in one word
pub record Counts (base n : ℕ) (cs : List ℕ) : Type 0 where
  pub counted : numeral base 0 cs ≡ Some n
  pub visible : unspaced cs ≡ true

counts_none : (base : ℕ) → Counts base 0 []
counts_none base = record { counted = refl; visible = refl }

counts_push : (base q : ℕ) (cs : List ℕ) (n c d : ℕ) → Counts base q cs → digit_of base c ≡ Some d → 32 < c → q * base + d ≡ n → Counts base n (cs ++ c ∷ [])
counts_push base q cs n c d front last over sum = record {
  counted = numeral-push base 0 cs q c d front.counted last ∙ ap Some sum;
  visible = unspaced-append cs (c ∷ []) front.visible (ap (λ b. b && true) (lt-ltb 32 c over));
}

pub decimal_counts : (n : ℕ) → n < 2 ^ 64 → Counts 10 n (decimal n)
decimal_counts = decimal_by_steps (Counts 10)
    (λ n lt. counts_push 10 0 [] n (48 + n) n (counts_none 10) (digit_ten n lt) (omega arith) (omega arith))
    (λ n ds big front. counts_push 10 (n / 10) ds n (48 + n % 10) (n % 10) front (digit_ten (n % 10) (mod_below n 10 (omega arith))) (omega arith) (div-add-mod' n 10))

pub hexes-none : (places n : ℕ) → places ≡ 0 → hexes places n ≡ []
unfolding hexes
hexes-none places n none = ap (λ k. hexes k n) none

pub hexes-more : (places n : ℕ) → (places ≡ 0 → ⊥) → hexes places n ≡ hexes (places - 1) (n / 16) ++ digit_char (n % 16) ∷ []
unfolding hexes
hexes-more zero n some = absurd (some refl)
hexes-more (suc places) n some = let e : places ≡ suc places - 1 = omega arith in ap (λ k. hexes k (n / 16) ++ digit_char (n % 16) ∷ []) e

pub hexes-count : (places n : ℕ) → n < 16 ^ places → Counts 16 n (hexes places n)
unfolding hexes
hexes-count zero n lt = let e : 0 ≡ n = omega arith in subst (λ m. Counts 16 m []) e (counts_none 16)
hexes-count (suc places) n lt =
    counts_push 16 (n / 16) (hexes places (n / 16)) n (digit_char (n % 16)) (n % 16)
    (hexes-count places (n / 16) (div_below n 16 (16 ^ places) (omega arith) (omega (arith, pow-suc 16 places))))
    (digit_sixteen (n % 16) (mod_below n 16 (omega arith))) (digit_visible (n % 16)) (div-add-mod' n 16)

pub length-hexes : (places n : ℕ) → length (hexes places n) ≡ places
unfolding hexes
length-hexes zero n = refl
length-hexes (suc places) n = length_push (hexes places (n / 16)) (digit_char (n % 16)) ∙ omega (arith, length-hexes places (n / 16))

pub number-reads : (base most n : ℕ) (cs : List ℕ) → Counts base n cs → n ≤ most → number_of base most cs ≡ Some n
number-reads base most n cs is le = ap (at_most most) is.counted ∙ ap (λ b. cond b (Some n) None) (le-leb n most le)

unsigned_reads : (most n : ℕ) (cs : List ℕ) → 0 < length cs → Counts 10 n cs → n ≤ most → unsigned_of most cs ≡ Some n
unsigned_reads most n [] some is le = absurd (omega arith)
unsigned_reads most n (c ∷ cs) some is le = number-reads 10 most n (c ∷ cs) is le

pub decimal_reads : (most n : ℕ) → n ≤ most → n < 2 ^ 64 → unsigned_of most (decimal n) ≡ Some n
decimal_reads most n le fits = unsigned_reads most n (decimal n) (decimal_nonempty n fits) (decimal_counts n fits) le

-- a minus sign is no digit
no_sign : (n : ℕ) (cs : List ℕ) → numeral 10 0 cs ≡ Some n → past_mark 45 cs ≡ None
no_sign n [] is = refl
no_sign n (c ∷ cs) is = ⊎_elim
    (λ (minus : eqb c 45 ≡ true). absurd
    (let none : None ≡ Some n = subst (λ d. numeral 10 0 (d ∷ cs) ≡ Some n) (eqb-true c 45 minus) is in
    let z : ◌≡◌ {A = ℕ} 0 1 = cc in
    omega arith))
    (λ (other : eqb c 45 ≡ false). ap (λ b. cond b (Some cs) None) other)
    (cases_Bool (eqb c 45))

pub signed_reads : (z : ℤ) → mag z < 2 ^ 63 → signed_of (signed_decimal z) ≡ Some z
signed_reads (pos n) fits =
    let plain : past_mark 45 (decimal n) ≡ None = no_sign n (decimal n) (decimal_counts n (omega arith)).counted in
    rw (plain, signed_of) (ap (option_map pos) (decimal_reads (2 ^ 63 - 1) n (omega arith) (omega arith)))
signed_reads (negsuc n) fits = ap (option_map (λ m. neg_ℤ (pos m))) (decimal_reads (2 ^ 63) (suc n) (omega arith) (omega arith))

pub signed_visible : (z : ℤ) → mag z < 2 ^ 63 → unspaced (signed_decimal z) ≡ true
signed_visible (pos n) fits = (decimal_counts n (omega arith)).visible
signed_visible (negsuc n) fits = (decimal_counts (suc n) (omega arith)).visible

pub float_reads : (n : ℕ) → n < 2 ^ 64 → float_of (float_word n) ≡ Some n
float_reads n fits =
    ap (λ k. cond (eqb k 16) (number_of 16 (2 ^ 64 - 1) (hexes 16 n)) None) (length-hexes 16 n)
    ∙ number-reads 16 (2 ^ 64 - 1) n (hexes 16 n) (hexes-count 16 n fits) (omega arith)

pub float_visible : (n : ℕ) → n < 2 ^ 64 → unspaced (float_word n) ≡ true
float_visible n fits = (hexes-count 16 n fits).visible

pub decimal_visible : (n : ℕ) → n < 2 ^ 64 → unspaced (decimal n) ≡ true
decimal_visible n fits = (decimal_counts n fits).visible

pub ruleset written = (decimal_reads, decimal_visible, signed_reads, signed_visible)
