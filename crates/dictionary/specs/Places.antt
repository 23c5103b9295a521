-- The place of the last element that passes a test.
use Rattle.std.specs.Prelude.{ℕ, suc, Bool, cond, List, [], ◌∷◌, Some, None, Option}
use Rattle.std.specs.Option.{option_or, option_map}

abbrev pub last_place : {X : Type 0} → (X → Bool) → List X → Option ℕ
last_place p [] = None
last_place p (x ∷ xs) = option_or (option_map suc (last_place p xs)) (cond (p x) (Some 0) None)
