-- Cutting bytes at the first byte that ends a part, and the words of a line.
use Rattle.std.proofs.Common.{◌≡◌, ℕ, zero, suc, ◌+◌, ◌<◌, ◌≤◌, true, false, cond, not, eqb, ◌==◌, ltb, List, [], ◌∷◌, ◌++◌, length, get_or, take, drop, Some, None, sym, refl, ap, ◌∙◌, subst, ⊎_elim, arith}
use Rattle.std.proofs.lemmas.List.{take_rest}
use Rattle.std.specs.List.{position, position_or_len}
use Rattle.std.proofs.lemmas.Bool.Decides.{nat_tests}
use Rattle.std.proofs.lemmas.List.Quantifiers.{position-Some}
use Rattle.std.proofs.lemmas.List.Folds.{list_all-append}
use Rattle.std.proofs.lemmas.List.Sums.{fails_before_first}
use Rattle.std.proofs.lemmas.Bool.{ne_eqb, eqb-true, ltb-true, and_parts, and_from, cases_Bool, not_from_false}
use Rattle.session.specs.Lines.{front, behind, first_word, more_words, tail, lacks, unspaced, CutsWords}

pub unspaced-append : (cs ds : List ℕ) → unspaced cs ≡ true → unspaced ds ≡ true → unspaced (cs ++ ds) ≡ true
unspaced-append cs ds front back = list_all-append (λ c. ltb 32 c) cs ds ∙ and_from (unspaced cs) (unspaced ds) front back

-- bytes are what stands before the first `end`, and the rest
module _ (end : ℕ) where
  rejoined : (bytes : List ℕ) → bytes ≡ front end bytes ++ tail end (behind end bytes)
  rejoined [] = refl
  rejoined (c ∷ cs) = ⊎_elim
      (λ (yea : eqb c end ≡ true). ap (λ d. d ∷ cs) (eqb-true c end yea) ∙ ap (λ b. cond b [] (c ∷ front end cs) ++ tail end (cond b (Some cs) (behind end cs))) (sym yea))
      (λ (nay : eqb c end ≡ false). ap (λ xs. c ∷ xs) (rejoined cs) ∙ ap (λ b. cond b [] (c ∷ front end cs) ++ tail end (cond b (Some cs) (behind end cs))) (sym nay))
      (cases_Bool (eqb c end))

  front-lacks : (bytes : List ℕ) → lacks end (front end bytes) ≡ true
  front-lacks [] = refl
  front-lacks (c ∷ cs) = ⊎_elim
      (λ (yea : eqb c end ≡ true). ap (λ b. lacks end (cond b [] (c ∷ front end cs))) yea)
      (λ (nay : eqb c end ≡ false). ap (λ b. lacks end (cond b [] (c ∷ front end cs))) nay ∙ and_from (not (eqb c end)) _ (not_from_false (eqb c end) nay) (front-lacks cs))
      (cases_Bool (eqb c end))

-- a byte above the space is none
above : (c : ℕ) (cs : List ℕ) → unspaced (c ∷ cs) ≡ true → eqb c 32 ≡ false
above c cs is = ne_eqb c 32 (λ e. omega (arith, ltb-true 32 c (and_parts (ltb 32 c) (unspaced cs) is).0))

last_word : (word : List ℕ) → unspaced word ≡ true → (first_word word ≡ word) × (more_words word ≡ None)
last_word [] is = (refl, refl)
last_word (c ∷ cs) is =
    let other : eqb c 32 ≡ false = above c cs is in
    let more = last_word cs (and_parts (ltb 32 c) (unspaced cs) is).1 in
    (ap (λ b. cond b [] (c ∷ first_word cs)) other ∙ ap (λ xs. c ∷ xs) more.0, ap (λ b. cond b (Some cs) (more_words cs)) other ∙ more.1)

word_then : (word rest : List ℕ) → unspaced word ≡ true → (first_word (word ++ 32 ∷ rest) ≡ word) × (more_words (word ++ 32 ∷ rest) ≡ Some rest)
word_then [] rest is = (refl, refl)
word_then (c ∷ cs) rest is =
    let other : eqb c 32 ≡ false = above c cs is in
    let more = word_then cs rest (and_parts (ltb 32 c) (unspaced cs) is).1 in
    (ap (λ b. cond b [] (c ∷ first_word (cs ++ 32 ∷ rest))) other ∙ ap (λ xs. c ∷ xs) more.0, ap (λ b. cond b (Some (cs ++ 32 ∷ rest)) (more_words (cs ++ 32 ∷ rest))) other ∙ more.1)

pub cuts_words : CutsWords
cuts_words = record { last = last_word; first = word_then }

-- bytes are cut at the place of the first `end`
at_place : (end : ℕ) (bytes : List ℕ) (i : ℕ) → i < length bytes → eqb (get_or bytes i 0) end ≡ true → ((k : ℕ) → k < i → eqb (get_or bytes k 0) end ≡ false) → (front end bytes ≡ take i bytes) × (behind end bytes ≡ Some (drop (i + 1) bytes))
at_place end [] i lt here before = absurd (omega arith)
at_place end (c ∷ cs) zero lt here before = (ap (λ b. cond b [] (c ∷ front end cs)) here, ap (λ b. cond b (Some cs) (behind end cs)) here)
at_place end (c ∷ cs) (suc i) lt here before =
    let later = at_place end cs i (omega arith) here (λ k below. before (suc k) (omega arith)) in
    let other : eqb c end ≡ false = before 0 (omega arith) in
    let e : suc (i + 1) ≡ suc i + 1 = omega arith in
    (ap (λ b. cond b [] (c ∷ front end cs)) other ∙ ap (λ xs. c ∷ xs) later.0, ap (λ b. cond b (Some cs) (behind end cs)) other ∙ later.1 ∙ ap (λ k. Some (drop k (c ∷ cs))) e)

at_end : (end : ℕ) (bytes : List ℕ) → ((k : ℕ) → k < length bytes → eqb (get_or bytes k 0) end ≡ false) → (front end bytes ≡ bytes) × (behind end bytes ≡ None)
at_end end [] none = (refl, refl)
at_end end (c ∷ cs) none =
    let later = at_end end cs (λ k below. none (suc k) (omega arith)) in
    let other : eqb c end ≡ false = none 0 (omega arith) in
    (ap (λ b. cond b [] (c ∷ front end cs)) other ∙ ap (λ xs. c ∷ xs) later.0, ap (λ b. cond b (Some cs) (behind end cs)) other ∙ later.1)

pub front_here : (end : ℕ) (bytes : List ℕ) (i : ℕ) → Some i ≡ position (λ c. c == end) bytes → front end bytes ≡ take i bytes
front_here end bytes i at = let found = position-Some (λ c. c == end) bytes i 0 (sym at) in (at_place end bytes i found.0 found.1 found.2).0

pub behind_here : (end : ℕ) (bytes : List ℕ) (i : ℕ) → Some i ≡ position (λ c. c == end) bytes → behind end bytes ≡ Some (drop (i + 1) bytes)
behind_here end bytes i at = let found = position-Some (λ c. c == end) bytes i 0 (sym at) in (at_place end bytes i found.0 found.1 found.2).1

pub rejoined_here : (end : ℕ) (bytes : List ℕ) (i : ℕ) → Some i ≡ position (λ c. c == end) bytes → take i bytes ++ end ∷ drop (i + 1) bytes ≡ bytes
rejoined_here end bytes i at = rw (sym (front_here end bytes i at)) (ap (λ t. front end bytes ++ tail end t) (sym (behind_here end bytes i at)) ∙ sym (rejoined end bytes))

pub lacks_here : (end : ℕ) (bytes : List ℕ) (i : ℕ) → Some i ≡ position (λ c. c == end) bytes → lacks end (take i bytes) ≡ true
lacks_here end bytes i at = rw (sym (front_here end bytes i at)) (front-lacks end bytes)

past_end : (end : ℕ) (bytes : List ℕ) → None ≡ position (λ c. c == end) bytes → length bytes ≤ position_or_len (λ c. c == end) bytes
past_end end bytes none = grind (arith, nat_tests)

nowhere : (end : ℕ) (bytes : List ℕ) → None ≡ position (λ c. c == end) bytes → (front end bytes ≡ bytes) × (behind end bytes ≡ None)
nowhere end bytes none =
    let past = past_end end bytes none in
    at_end end bytes (λ k below. fails_before_first (λ c. c == end) bytes k 0 (omega arith))

pub front_all : (end : ℕ) (bytes : List ℕ) → None ≡ position (λ c. c == end) bytes → front end bytes ≡ bytes
front_all end bytes none = (nowhere end bytes none).0

pub behind_none : (end : ℕ) (bytes : List ℕ) → None ≡ position (λ c. c == end) bytes → behind end bytes ≡ None
behind_none end bytes none = (nowhere end bytes none).1

pub lacks_all : (end : ℕ) (bytes : List ℕ) → None ≡ position (λ c. c == end) bytes → lacks end bytes ≡ true
lacks_all end bytes none = subst (λ front. lacks end front ≡ true) (front_all end bytes none) (front-lacks end bytes)

pub ruleset cuts = (front_here, behind_here, rejoined_here, lacks_here, front_all, behind_none, lacks_all, cuts_words, take_rest)
