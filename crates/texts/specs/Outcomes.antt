-- What a call comes to: it is taken, and leaves something and answers something, or it is refused, and then everything stays as it was.
use Rattle.std.specs.Prelude.{◌≡◌, ℕ, zero, suc, List, [], ◌∷◌, Ok, Err, Result}

-- X is what the call works on, R what it answers, F why it may be refused
pub data Outcome (X R F : Type 0) : Type 0 where
  taken : X → R → Outcome X R F
  refused : F → Outcome X R F

-- what stands after the call, where x stood before it
abbrev pub leaves : {X R F : Type 0} → X → Outcome X R F → X
leaves x (taken y a) = y
leaves x (refused f) = x

-- what the caller is told
abbrev pub answers : {X R F : Type 0} → Outcome X R F → Result R F
answers (taken y a) = Ok a
answers (refused f) = Err f

-- the call had this outcome: it turned `before` into `after` and answered r
pub record Came {X R F : Type 0} (o : Outcome X R F) (before after : X) (r : Result R F) : Type 0 where
  pub told : r ≡ answers o
  pub left : after ≡ leaves before o

-- an outcome of a part, as one of the whole
abbrev pub carry : {X Y R F : Type 0} → (X → Y) → Outcome X R F → Outcome Y R F
carry f (taken x a) = taken (f x) a
carry f (refused e) = refused e

-- a call on the element at a place; where there is none, it is refused for that
abbrev pub at_place : {X R F : Type 0} → F → (X → Outcome X R F) → List X → ℕ → Outcome (List X) R F
at_place none call [] i = refused none
at_place none call (x ∷ xs) zero = carry (λ y. y ∷ xs) (call x)
at_place none call (x ∷ xs) (suc i) = carry (λ ys. x ∷ ys) (at_place none call xs i)
