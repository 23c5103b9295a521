-- A number read digit by digit.
use Rattle.std.proofs.Common.{◌≡◌, ℕ, ◌+◌, ◌*◌, ◌<◌, ◌≤◌, cond, List, [], ◌∷◌, length, get_or, drop, is_some, Some, None, unwrap_or, sym, refl, ap, ◌∙◌, mul-one, arith}
use Rattle.std.proofs.lemmas.Nat.{mul-le}
use Rattle.std.proofs.lemmas.List.{at_drop_more, at_drop_all}
use Rattle.std.proofs.lemmas.Bool.{lt-leb, le-leb}
use Rattle.std.proofs.lemmas.Bool.Decides.{nat_tests}
use Rattle.session.specs.Numerals.{at_most, digit_of, numeral}

-- more digits make no smaller number, so past the limit there is none
pub past_most : (base most n : ℕ) (cs : List ℕ) → 0 < base → most < n → at_most most (numeral base n cs) ≡ None
past_most base most n [] some over = ap (λ b. cond b (Some n) None) (lt-leb n most over)
past_most base most n (c ∷ cs) some over =
    elim (digit_of base c) as (λ o. at_most most (cond (is_some o) (numeral base (n * base + unwrap_or o 0) cs) None) ≡ None) [
      | None ↦ refl
      | Some d ↦ past_most base most (n * base + d) cs some (omega (arith, mul-le n 1 n base (omega arith) (omega arith), mul-one n))
    ]

module _ (base most n : ℕ) (cs : List ℕ) (i : ℕ) (lt : i < length cs) where
  -- the byte at i is a digit
  pub numeral-more : (d : ℕ) → Some d ≡ digit_of base (get_or cs i 0) → at_most most (numeral base n (drop i cs)) ≡ at_most most (numeral base (n * base + d) (drop (i + 1) cs))
  numeral-more d is =
      at_drop_more (λ xs. at_most most (numeral base n xs)) cs i 0 lt
      ∙ ap (λ o. at_most most (cond (is_some o) (numeral base (n * base + unwrap_or o 0) (drop (i + 1) cs)) None)) (sym is)

  -- with that digit the number is too large
  pub numeral-over : (d : ℕ) → Some d ≡ digit_of base (get_or cs i 0) → 0 < base → most < n * base + d → at_most most (numeral base n (drop i cs)) ≡ None
  numeral-over d is some over = numeral-more d is ∙ past_most base most (n * base + d) (drop (i + 1) cs) some over

  -- the byte at i is none
  pub numeral-stops : None ≡ digit_of base (get_or cs i 0) → at_most most (numeral base n (drop i cs)) ≡ None
  numeral-stops is =
      at_drop_more (λ xs. at_most most (numeral base n xs)) cs i 0 lt
      ∙ ap (λ o. at_most most (cond (is_some o) (numeral base (n * base + unwrap_or o 0) (drop (i + 1) cs)) None)) (sym is)

-- no byte is left
pub numeral-all : (base most n : ℕ) (cs : List ℕ) (i : ℕ) → length cs ≤ i → n ≤ most → at_most most (numeral base n (drop i cs)) ≡ Some n
numeral-all base most n cs i past le = at_drop_all (λ xs. at_most most (numeral base n xs)) cs i past ∙ ap (λ b. cond b (Some n) None) (le-leb n most le)

pub ruleset digits_read = (numeral-more, numeral-over, numeral-stops, numeral-all, nat_tests)
