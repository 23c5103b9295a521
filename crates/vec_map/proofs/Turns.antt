-- What the work on the first entries of a slice leaves of it.
use Rattle.std.proofs.Common.{◌≡◌, ℕ, zero, suc, ◌<◌, ◌≤◌, min, List, [], ◌∷◌, ◌++◌, length, get_or, take, drop, set, refl, ap, ◌∙◌, arith}
use Rattle.std.proofs.lemmas.List.{take_min, take-append-le, drop-set-lt, length-take}
use Rattle.std.proofs.lemmas.Slice.{drop-append-drop}
use Rattle.vec_map.specs.declared.entry.Entry.{Entry}
use Rattle.vec_map.specs.Entries.{with_value}
use Rattle.vec_map.specs.Fronts.{Front, Turned}

module _ {X : Type 0} where
  -- the first count were worked on, which are the first len
  pub turned_part : (F : List X → List X) (xs ys : List X) (len count r : ℕ) → count ≡ min len (length xs) → Front ys r (F (take count xs)) → length ys ≡ length (take count xs) → Turned xs len (ys ++ drop count xs) r (F (take len xs))
  turned_part F xs ys len count r is f long =
      let same-part : take count xs ≡ take len xs = ap (λ n. take n xs) (omega arith) ∙ take_min len xs in
      let low : r ≤ length ys = omega (arith, f.count, ap length f.front, length-take r ys) in
      record {
        front = take-append-le r ys (drop count xs) low ∙ f.front ∙ ap F same-part;
        beyond = drop-append-drop count xs ys _ (omega (arith, length-take len xs)) (omega (arith, length-take count xs));
      }

module _ {K V : Type 0} where
  set_value : (es : List (Entry K V)) (i : ℕ) (v : V) (d : Entry K V) → set es i (record { key = (get_or es i d).key; value = v }) ≡ with_value es i v
  set_value [] i v d = refl
  set_value (x ∷ es) zero v d = refl
  set_value (x ∷ es) (suc i) v d = ap (λ xs. x ∷ xs) (set_value es i v d)

  take-with_value : (n : ℕ) (es : List (Entry K V)) (i : ℕ) (v : V) → take n (with_value es i v) ≡ with_value (take n es) i v
  take-with_value zero es i v = refl
  take-with_value (suc n) [] i v = refl
  take-with_value (suc n) (e ∷ es) zero v = refl
  take-with_value (suc n) (e ∷ es) (suc i) v = ap (λ xs. e ∷ xs) (take-with_value n es i v)

  -- a write of a value among the first
  pub turned_rewrite : (es : List (Entry K V)) (len i : ℕ) (v : V) (d : Entry K V) → i < len → i < length es → Turned es len (set es i (record { key = (get_or es i d).key; value = v })) len (with_value (take len es) i v)
  turned_rewrite es len i v d low within = record {
    front = ap (take len) (set_value es i v d) ∙ take-with_value len es i v;
    beyond = drop-set-lt _ es i (record { key = (get_or es i d).key; value = v }) (omega (arith, length-take len es));
  }
