-- The place of the last element that passes a test: one element more, and a search that looks only where a wider test passes.
use Rattle.std.specs.Prelude.{◌≡◌, ℕ, suc, ◌<◌, Bool, true, false, cond, List, [], ◌∷◌, ◌++◌, length, take, Some, None, Option, slice_index_or, refl}
use Rattle.std.proofs.Common.{ap, subst, ◌∙◌, arith}
use Rattle.std.specs.Option.{option_or, option_map}
use Rattle.dictionary.specs.Places.{last_place}

module _ {X : Type 0} (p : X → Bool) where
  pub last_place-push : (xs : List X) (x : X) → last_place p (xs ++ x ∷ []) ≡ cond (p x) (Some (length xs)) (last_place p xs)
  last_place-push [] x = refl
  last_place-push (y ∷ ys) x =
      ap (λ o. option_or (option_map suc o) (cond (p y) (Some 0) None)) (last_place-push ys x)
      ∙ elim (p x) as (λ b. option_or (option_map suc (cond b (Some (length ys)) (last_place p ys))) (cond (p y) (Some 0) None) ≡ cond b (Some (suc (length ys))) (option_or (option_map suc (last_place p ys)) (cond (p y) (Some 0) None))) [ true ↦ refl | false ↦ refl ]

  -- the last place is one of the list, and its element passes
  pub record Hit (xs : List X) (i : ℕ) : Type 0 where
    pub below : i < length xs
    pub passes : (d : X) → p (slice_index_or xs i d) ≡ true

  hit_cons : (x : X) (xs : List X) (o : Option ℕ) (i : ℕ) → ((j : ℕ) → o ≡ Some j → Hit xs j) → option_or (option_map suc o) (cond (p x) (Some 0) None) ≡ Some i → Hit (x ∷ xs) i
  hit_cons x xs (Some j) i rest e =
      let same : suc j ≡ i = cc in
      let h = rest j refl in
      subst (Hit (x ∷ xs)) same (record { below = omega (arith, h.below); passes = h.passes })
  hit_cons x xs None i rest e = hit_first (p x) refl e
    where
      hit_first : (b : Bool) → p x ≡ b → cond b (Some 0) None ≡ Some i → Hit (x ∷ xs) i
      hit_first true px e = let same : ◌≡◌ {A = ℕ} 0 i = cc in subst (Hit (x ∷ xs)) same (record { below = omega arith; passes = λ d. px })
      hit_first false px e = let z : ◌≡◌ {A = ℕ} 0 1 = cc in absurd (omega arith)

  pub last_place-hit : (xs : List X) (i : ℕ) → last_place p xs ≡ Some i → Hit xs i
  last_place-hit [] i e = let z : ◌≡◌ {A = ℕ} 0 1 = cc in absurd (omega arith)
  last_place-hit (x ∷ xs) i e = hit_cons x xs (last_place p xs) i (last_place-hit xs) e

-- q is the wider test: what passes p passes q
module _ {X : Type 0} (p q : X → Bool) (wider : (x : X) → p x ≡ true → q x ≡ true) where
  none_cons : (x : X) (o o' : Option ℕ) → (o ≡ None → o' ≡ None) → option_or (option_map suc o) (cond (q x) (Some 0) None) ≡ None → option_or (option_map suc o') (cond (p x) (Some 0) None) ≡ None
  none_cons x (Some j) o' rest e = let z : ◌≡◌ {A = ℕ} 0 1 = cc in absurd (omega arith)
  none_cons x None o' rest e = ap (λ o. option_or (option_map suc o) (cond (p x) (Some 0) None)) (rest refl) ∙ none_here (p x) (q x) (wider x) e
    where
      none_here : (b c : Bool) → (b ≡ true → c ≡ true) → cond {A = Option ℕ} c (Some 0) None ≡ None → cond {A = Option ℕ} b (Some 0) None ≡ None
      none_here true true w e = let z : ◌≡◌ {A = ℕ} 0 1 = cc in absurd (omega arith)
      none_here true false w e = let t = w refl in let z : ◌≡◌ {A = ℕ} 0 1 = cc in absurd (omega arith)
      none_here false c w e = refl

  -- nothing passes p where nothing passes q
  pub narrow_none : (xs : List X) → last_place q xs ≡ None → last_place p xs ≡ None
  narrow_none [] e = refl
  narrow_none (x ∷ xs) e = none_cons x (last_place q xs) (last_place p xs) (narrow_none xs) e

  -- the last that passes q passes p, or the last that passes p stands before it
  pub narrow : (xs : List X) (i : ℕ) (d : X) → last_place q xs ≡ Some i → last_place p xs ≡ cond (p (slice_index_or xs i d)) (Some i) (last_place p (take i xs))
  narrow [] i d e = let z : ◌≡◌ {A = ℕ} 0 1 = cc in absurd (omega arith)
  narrow (x ∷ xs) i d e = narrow_cons (λ j. narrow xs j d) (last_place q xs) refl e
    where
      narrow_cons : ((j : ℕ) → last_place q xs ≡ Some j → last_place p xs ≡ cond (p (slice_index_or xs j d)) (Some j) (last_place p (take j xs))) → (o : Option ℕ) → last_place q xs ≡ o → option_or (option_map suc o) (cond (q x) (Some 0) None) ≡ Some i → last_place p (x ∷ xs) ≡ cond (p (slice_index_or (x ∷ xs) i d)) (Some i) (last_place p (take i (x ∷ xs)))
      narrow_cons rest (Some j) at f =
          let same : suc j ≡ i = cc in
          subst (λ n. last_place p (x ∷ xs) ≡ cond (p (slice_index_or (x ∷ xs) n d)) (Some n) (last_place p (take n (x ∷ xs)))) same
          (ap (λ o. option_or (option_map suc o) (cond (p x) (Some 0) None)) (rest j at)
          ∙ elim (p (slice_index_or xs j d)) as (λ b. option_or (option_map suc (cond b (Some j) (last_place p (take j xs)))) (cond (p x) (Some 0) None) ≡ cond b (Some (suc j)) (option_or (option_map suc (last_place p (take j xs))) (cond (p x) (Some 0) None))) [ true ↦ refl | false ↦ refl ])
      narrow_cons rest None at f = narrow_first (q x) f
        where
          narrow_first : (b : Bool) → cond b (Some 0) None ≡ Some i → last_place p (x ∷ xs) ≡ cond (p (slice_index_or (x ∷ xs) i d)) (Some i) (last_place p (take i (x ∷ xs)))
          narrow_first false g = let z : ◌≡◌ {A = ℕ} 0 1 = cc in absurd (omega arith)
          narrow_first true g =
              let same : ◌≡◌ {A = ℕ} 0 i = cc in
              subst (λ n. last_place p (x ∷ xs) ≡ cond (p (slice_index_or (x ∷ xs) n d)) (Some n) (last_place p (take n (x ∷ xs)))) same
              (ap (λ o. option_or (option_map suc o) (cond (p x) (Some 0) None)) (narrow_none xs at))
