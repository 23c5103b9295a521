-- What the laws of sameness give of readings.
use Rattle.std.proofs.Common.{◌≡◌, ℕ, zero, suc, ◌+◌, ◌<◌, Bool, true, false, cond, not, ◌&&◌, ◌||◌, List, [], ◌∷◌, ◌++◌, reverse, length, get_or, drop, Some, None, sym, refl, ap, ◌∙◌, arith}
use Rattle.std.proofs.lemmas.Bool.{cases_Bool, or_parts}
use Rattle.std.proofs.lemmas.List.{reverse-append}
use Rattle.std.proofs.lemmas.List.Folds.{list_any-append, list_any_at}
use Rattle.std.proofs.lemmas.List.Sorted.{IsPermutation-reverse, list_any-IsPermutation}
use Rattle.std.specs.Cmp.{both_ways}
use Rattle.vec_map.specs.declared.entry.Entry.{Entry}
use Rattle.vec_map.specs.Keys.{Equivalence}
use Rattle.vec_map.specs.Entries.{holds_key, reading, without, lasts, distinct, with_value, LastAt}

module _ {K V : Type 0} (same : K → K → Bool) where
  pub reverse-cons : (e : Entry K V) (es : List (Entry K V)) → reverse (e ∷ es) ≡ reverse es ++ (e ∷ [])
  reverse-cons e es = reverse-append (e ∷ []) es

  pub holds_append : (xs ys : List (Entry K V)) (k : K) → holds_key same (xs ++ ys) k ≡ (holds_key same xs k || holds_key same ys k)
  holds_append xs ys k = list_any-append (λ e. same e.key k) xs ys

  pub holds_reverse : (es : List (Entry K V)) (k : K) → holds_key same (reverse es) k ≡ holds_key same es k
  holds_reverse es k = sym (list_any-IsPermutation (λ e. same e.key k) es (reverse es) (IsPermutation-reverse es))

  pub reading-none : (es : List (Entry K V)) (k : K) → holds_key same es k ≡ false → reading same es k ≡ None
  reading-none [] k h = refl
  reading-none (e ∷ es) k h = grind (arith, or_parts (same e.key k) (holds_key same es k) h)

  pub reading-append : (xs ys : List (Entry K V)) (k : K) → reading same (xs ++ ys) k ≡ cond (holds_key same ys k) (reading same ys k) (reading same xs k)
  reading-append [] ys k = grind (arith, reading-none ys k, cases_Bool (holds_key same ys k))
  reading-append (x ∷ xs) ys k = grind (arith, reading-append xs ys k, holds_append xs ys k, cases_Bool (holds_key same ys k), cases_Bool (holds_key same xs k))

module _ {K : Type 0} (same : K → K → Bool) (laws : Equivalence same) where
  -- keys that are the same are like the same keys
  pub same_left : (a b k : K) → same a b ≡ true → same k a ≡ same k b
  same_left a b k h = both_ways _ _ (λ p. laws.chained k a b p h) (λ p. laws.chained k b a p (laws.flipped a b h))

  pub same_right : (a b k : K) → same a b ≡ true → same a k ≡ same b k
  same_right a b k h = both_ways _ _ (λ p. laws.chained b a k (laws.flipped a b h) p) (λ p. laws.chained a b k h p)

  pub same_flip : (a b : K) → same a b ≡ same b a
  same_flip a b = both_ways _ _ (laws.flipped a b) (laws.flipped b a)

module _ {K V : Type 0} (same : K → K → Bool) (laws : Equivalence same) where
  pub holds_same : (es : List (Entry K V)) (a b : K) → same a b ≡ true → holds_key same es a ≡ holds_key same es b
  holds_same [] a b h = refl
  holds_same (e ∷ es) a b h = ap (λ t. t || holds_key same es a) (same_left same laws a b e.key h) ∙ ap (λ t. same e.key b || t) (holds_same es a b h)

  pub holds_lasts : (es : List (Entry K V)) (k : K) → holds_key same (lasts same es) k ≡ holds_key same es k
  holds_lasts [] k = refl
  holds_lasts (e ∷ es) k = grind (arith, holds_lasts es k, holds_same es e.key k, cases_Bool (holds_key same es e.key), cases_Bool (same e.key k))

  pub reading-lasts : (es : List (Entry K V)) (k : K) → reading same (lasts same es) k ≡ reading same es k
  reading-lasts [] k = refl
  reading-lasts (e ∷ es) k = grind (arith, holds_lasts es k, reading-lasts es k, reading-none same es k, holds_same es e.key k, cases_Bool (holds_key same es e.key), cases_Bool (same e.key k), cases_Bool (holds_key same es k))

  pub distinct-lasts : (es : List (Entry K V)) → distinct same (lasts same es) ≡ true
  distinct-lasts [] = refl
  distinct-lasts (e ∷ es) = grind (arith, holds_lasts es e.key, distinct-lasts es, cases_Bool (holds_key same es e.key))

  pub distinct_push : (es : List (Entry K V)) (e : Entry K V) → distinct same es ≡ true → holds_key same es e.key ≡ false → distinct same (es ++ (e ∷ [])) ≡ true
  distinct_push [] e d h = refl
  distinct_push (x ∷ xs) e d h = grind (arith, distinct_push xs e, holds_append same xs (e ∷ []) x.key, same_flip same laws x.key e.key, cases_Bool (holds_key same xs x.key), cases_Bool (same x.key e.key), cases_Bool (distinct same xs), cases_Bool (holds_key same xs e.key))

  pub distinct-reverse : (es : List (Entry K V)) → distinct same es ≡ true → distinct same (reverse es) ≡ true
  distinct-reverse [] d = refl
  distinct-reverse (e ∷ es) d =
      ap (distinct same) (reverse-cons same e es) ∙ distinct_push (reverse es) e (distinct-reverse es (grind (arith, cases_Bool (holds_key same es e.key)))) (holds_reverse same es e.key ∙ grind (arith, cases_Bool (holds_key same es e.key)))

  pub reading-reverse : (es : List (Entry K V)) (k : K) → distinct same es ≡ true → reading same (reverse es) k ≡ reading same es k
  reading-reverse [] k d = refl
  reading-reverse (e ∷ es) k d =
      ap (λ xs. reading same xs k) (reverse-cons same e es) ∙ reading-append same (reverse es) (e ∷ []) k
      ∙ grind (arith, reading-reverse es k, reading-none same es k, holds_same es e.key k, cases_Bool (holds_key same es e.key), cases_Bool (same e.key k), cases_Bool (holds_key same es k))

  pub holds_without : (es : List (Entry K V)) (k q : K) → holds_key same (without same es k) q ≡ cond (same k q) false (holds_key same es q)
  holds_without [] k q = grind (arith, cases_Bool (same k q))
  holds_without (e ∷ es) k q = grind (arith, holds_without es k q, same_right same laws e.key k q, same_left same laws k q e.key, cases_Bool (same e.key k), cases_Bool (same k q), cases_Bool (same e.key q))

  pub reading-without : (es : List (Entry K V)) (k q : K) → reading same (without same es k) q ≡ cond (same k q) None (reading same es q)
  reading-without [] k q = grind (arith, cases_Bool (same k q))
  reading-without (e ∷ es) k q = grind (arith, reading-without es k q, reading-none same es q, holds_without es k q, same_right same laws e.key k q, same_left same laws k q e.key, cases_Bool (same e.key k), cases_Bool (same k q), cases_Bool (same e.key q), cases_Bool (holds_key same es q))

  pub reading-insert : (es : List (Entry K V)) (e : Entry K V) (q : K) → reading same (es ++ (e ∷ [])) q ≡ cond (same e.key q) (Some e.value) (reading same es q)
  reading-insert es e q = grind (arith, reading-append same es (e ∷ []) q, cases_Bool (same e.key q))

  pub reading-dedup : (es : List (Entry K V)) (q : K) → reading same (reverse (lasts same es)) q ≡ reading same es q
  reading-dedup es q = reading-reverse (lasts same es) q (distinct-lasts es) ∙ reading-lasts es q

  pub distinct-dedup : (es : List (Entry K V)) → distinct same (reverse (lasts same es)) ≡ true
  distinct-dedup es = distinct-reverse (lasts same es) (distinct-lasts es)

  holds_value : (es : List (Entry K V)) (i : ℕ) (v : V) (q : K) → holds_key same (with_value es i v) q ≡ holds_key same es q
  holds_value [] i v q = refl
  holds_value (e ∷ es) zero v q = refl
  holds_value (e ∷ es) (suc i) v q = ap (λ b. same e.key q || b) (holds_value es i v q)

  reading-value : (es : List (Entry K V)) (i : ℕ) (v : V) (k q : K) (d : Entry K V) → i < length es → same (get_or es i d).key k ≡ true → holds_key same (drop (suc i) es) k ≡ false → reading same (with_value es i v) q ≡ cond (same k q) (Some v) (reading same es q)
  reading-value [] i v k q d lt here after = absurd (omega arith)
  reading-value (e ∷ es) zero v k q d lt here after = grind (arith, here, after, holds_same es k q, same_right same laws e.key k q here, cases_Bool (same k q), cases_Bool (holds_key same es q))
  reading-value (e ∷ es) (suc i) v k q d lt here after =
      grind (arith, reading-value es i v k q d (omega arith) here after, holds_value es i v q, list_any_at (λ e. same e.key k) es i d (omega arith) here, holds_same es k q, cases_Bool (same k q), cases_Bool (holds_key same es q))

  pub reading-written : (es : List (Entry K V)) (k : K) (i : ℕ) (v : V) → LastAt same es k i → (q : K) → reading same (with_value es i v) q ≡ cond (same k q) (Some v) (reading same es q)
  reading-written [] k i v l q = let z : i < 0 = l.within in absurd (omega arith)
  reading-written (e ∷ es) k i v l q =
      let n : i + 1 ≡ suc i = omega arith in
      reading-value (e ∷ es) i v k q e l.within (l.here e) (ap (λ m. holds_key same (drop m (e ∷ es)) k) (sym n) ∙ l.after)

  pub distinct_without : (es : List (Entry K V)) (k : K) → distinct same es ≡ true → distinct same (without same es k) ≡ true
  distinct_without [] k d = refl
  distinct_without (e ∷ es) k d = grind (arith, distinct_without es k, holds_without es k e.key, cases_Bool (same e.key k), cases_Bool (same k e.key), cases_Bool (holds_key same es e.key), cases_Bool (distinct same es))

  pub distinct-value : (es : List (Entry K V)) (i : ℕ) (v : V) → distinct same (with_value es i v) ≡ distinct same es
  distinct-value [] i v = refl
  distinct-value (e ∷ es) zero v = refl
  distinct-value (e ∷ es) (suc i) v = ap (λ b. not b && distinct same (with_value es i v)) (holds_value es i v e.key) ∙ ap (λ b. not (holds_key same es e.key) && b) (distinct-value es i v)
