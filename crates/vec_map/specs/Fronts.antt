-- The first places of a slice, and what work on them leaves.
use Rattle.std.specs.Prelude.{◌≡◌, ℕ, max, Bool, cond, List, [], ◌∷◌, ◌++◌, length, take, drop, fold}

-- the first n of xs are es
pub record Front {X : Type 0} (xs : List X) (n : ℕ) (es : List X) : Type 0 where
  pub front : take n xs ≡ es
  pub count : n ≡ length es

-- the first m of xs became the first n of ys, which are es, and no place past both changed
pub record Turned {X : Type 0} (xs : List X) (m : ℕ) (ys : List X) (n : ℕ) (es : List X) : Type 0 where
  pub front : take n ys ≡ es
  pub beyond : drop (max (length (take m xs)) (length (take n ys))) ys ≡ drop (max (length (take m xs)) (length (take n ys))) xs

-- the elements that the test wants, each asked for with those kept before it
abbrev pub kept_by : {X : Type 0} → (List X → X → Bool) → List X → List X
kept_by test xs = fold (λ kept x. cond (test kept x) (kept ++ x ∷ []) kept) [] xs
