-- A loop that moves some of what it reads to the front: each element is asked for with those kept before it.
use Rattle.std.proofs.Common.{◌≡◌, ℕ, ◌+◌, ◌<◌, ◌≤◌, Bool, true, false, cond, not, List, [], ◌∷◌, ◌++◌, reverse, length, get_or, take, drop, set, fold, filter, sym, refl, ap, ◌∙◌, arith}
use Rattle.std.proofs.lemmas.Bool.{cases_Bool}
use Rattle.std.proofs.lemmas.List.{append-nil, append_assoc, drop_more, drop-drop, take_more, take_more_set, drop-set-lt, length-set}
use Rattle.std.proofs.lemmas.List.Sums.{fold-append}
use Rattle.vec_map.specs.declared.entry.Entry.{Entry}
use Rattle.vec_map.specs.Keys.{Equivalence}
use Rattle.vec_map.specs.Entries.{holds_key, lasts}
use Rattle.vec_map.specs.Fronts.{kept_by}
use Rattle.vec_map.proofs.Laws.{reverse-cons, holds_reverse, holds_lasts}

-- ys began as zs. What is kept of the first i of zs stands in the first k places of ys, and from i on ys is as it was
pub record Moving {X : Type 0} (test : List X → X → Bool) (zs ys : List X) (k i : ℕ) : Type 0 where
  pub front : take k ys ≡ kept_by test (take i zs)
  pub rest : drop i ys ≡ drop i zs
  pub behind : k ≤ i
  pub within : i ≤ length zs
  pub long : length ys ≡ length zs

pub kept-push : {X : Type 0} (test : List X → X → Bool) (xs : List X) (x : X) → kept_by test (xs ++ (x ∷ [])) ≡ cond (test (kept_by test xs) x) (kept_by test xs ++ (x ∷ [])) (kept_by test xs)
kept-push test xs x = fold-append _ [] xs (x ∷ [])

module _ {X : Type 0} {test : List X → X → Bool} where
  module _ {zs ys : List X} {k i : ℕ} (m : Moving test zs ys k i) (lt : i < length ys) (x : X) (read : x ≡ get_or ys i x) where
    one_more : take (i + 1) zs ≡ take i zs ++ (x ∷ [])
    one_more =
        let there : i < length zs = omega (arith, m.long) in
        let here = drop_more ys i x lt in
        let was = drop_more zs i x there in
        let rest = m.rest in
        let is : get_or zs i x ≡ x = cc in
        take_more zs i x there ∙ ap (λ y. take i zs ++ (y ∷ [])) is

    rest_on : drop (i + 1) ys ≡ drop (i + 1) zs
    rest_on = sym (drop-drop 1 i ys) ∙ ap (drop 1) m.rest ∙ drop-drop 1 i zs

    -- what is kept of one more, by the answer of its test
    one_more_kept : (b : Bool) → b ≡ test (take k ys) x → kept_by test (take (i + 1) zs) ≡ cond b (take k ys ++ (x ∷ [])) (take k ys)
    one_more_kept b answer =
        ap (kept_by test) one_more ∙ kept-push test (take i zs) x
        ∙ ap (λ xs. cond (test xs x) (xs ++ (x ∷ [])) xs) (sym m.front)
        ∙ ap (λ c. cond c (take k ys ++ (x ∷ [])) (take k ys)) (sym answer)

    pub moving_skip : false ≡ test (take k ys) x → Moving test zs ys k (i + 1)
    moving_skip out = record {
      front = sym (one_more_kept false out);
      rest = rest_on;
      behind = omega (arith, m.behind);
      within = omega (arith, m.long);
      long = m.long;
    }

    pub moving_keep : true ≡ test (take k ys) x → Moving test zs (set ys k x) (k + 1) (i + 1)
    moving_keep wanted =
        let low : k < i + 1 = omega (arith, m.behind) in
        record {
          front = take_more_set ys k x (omega (arith, m.behind)) ∙ sym (one_more_kept true wanted);
          rest = drop-set-lt (i + 1) ys k x low ∙ rest_on;
          behind = omega (arith, m.behind);
          within = omega (arith, m.long);
          long = length-set ys k x ∙ m.long;
        }

-- a test that looks at nothing kept before
kept_onto : {X : Type 0} (test : X → Bool) (front xs : List X) → fold (λ kept x. cond (test x) (kept ++ (x ∷ [])) kept) front xs ≡ front ++ filter test xs
kept_onto test front [] = sym (append-nil front)
kept_onto test front (x ∷ xs) = grind (arith, kept_onto test (front ++ (x ∷ [])) xs, kept_onto test front xs, append_assoc front (x ∷ []) (filter test xs), cases_Bool (test x))

pub kept-filter : {X : Type 0} (test : X → Bool) (xs : List X) → kept_by (λ _ x. test x) xs ≡ filter test xs
kept-filter test xs = kept_onto test [] xs

-- the first of each key, of entries that stand the latest first
pub kept-lasts : {K V : Type 0} (same : K → K → Bool) → Equivalence same → (es : List (Entry K V)) → kept_by (λ kept e. not (holds_key same kept e.key)) (reverse es) ≡ reverse (lasts same es)
kept-lasts same laws [] = refl
kept-lasts same laws (e ∷ es) =
    let test = λ (kept : List (Entry _ _)) (x : Entry _ _). not (holds_key same kept x.key) in
    ap (kept_by test) (reverse-cons same e es) ∙ kept-push test (reverse es) e
    ∙ ap (λ xs. cond (test xs e) (xs ++ (e ∷ [])) xs) (kept-lasts same laws es)
    ∙ ap (λ b. cond (not b) (reverse (lasts same es) ++ (e ∷ [])) (reverse (lasts same es))) (holds_reverse same (lasts same es) e.key ∙ holds_lasts same laws es e.key)
    ∙ grind (arith, reverse-cons same e (lasts same es), cases_Bool (holds_key same es e.key))
