-- A call on the element at a place of a list.
use Rattle.std.proofs.Common.{◌≡◌, ℕ, zero, suc, ◌<◌, ◌≤◌, List, [], ◌∷◌, length, get_or, set, refl, ap, ◌∙◌, arith}
use Rattle.texts.specs.Outcomes.{Outcome, leaves, answers, carry, at_place}
use Rattle.texts.specs.Outcomes.Outcome.{taken, refused}

module _ {X Y R F : Type 0} (f : X → Y) where
  pub answers-carry : (o : Outcome X R F) → answers (carry f o) ≡ answers o
  answers-carry (taken x a) = refl
  answers-carry (refused e) = refl

  pub leaves-carry : (x : X) (o : Outcome X R F) → leaves (f x) (carry f o) ≡ f (leaves x o)
  leaves-carry x (taken y a) = refl
  leaves-carry x (refused e) = refl

module _ {X R F : Type 0} (none : F) (call : X → Outcome X R F) where
  -- the element there is what the call works on
  pub answers_at : (xs : List X) (i : ℕ) (d : X) → i < length xs → answers (at_place none call xs i) ≡ answers (call (get_or xs i d))
  answers_at [] i d lt = absurd (omega arith)
  answers_at (x ∷ xs) zero d lt = answers-carry (λ y. y ∷ xs) (call x)
  answers_at (x ∷ xs) (suc i) d lt = answers-carry (λ ys. x ∷ ys) (at_place none call xs i) ∙ answers_at xs i d (omega arith)

  pub leaves_at : (xs : List X) (i : ℕ) (d : X) → i < length xs → leaves xs (at_place none call xs i) ≡ set xs i (leaves (get_or xs i d) (call (get_or xs i d)))
  leaves_at [] i d lt = absurd (omega arith)
  leaves_at (x ∷ xs) zero d lt = leaves-carry (λ y. y ∷ xs) x (call x)
  leaves_at (x ∷ xs) (suc i) d lt = leaves-carry (λ ys. x ∷ ys) xs (at_place none call xs i) ∙ ap (λ ys. x ∷ ys) (leaves_at xs i d (omega arith))

  pub none_at : (xs : List X) (i : ℕ) → length xs ≤ i → at_place none call xs i ≡ refused none
  none_at [] i le = refl
  none_at (x ∷ xs) zero le = absurd (omega arith)
  none_at (x ∷ xs) (suc i) le = ap (carry (λ ys. x ∷ ys)) (none_at xs i (omega arith))

  -- a call at a place leaves as many elements as there were
  pub length_at : (xs : List X) (i : ℕ) → length (leaves xs (at_place none call xs i)) ≡ length xs
  length_at [] i = refl
  length_at (x ∷ xs) zero = ap length (leaves-carry (λ y. y ∷ xs) x (call x))
  length_at (x ∷ xs) (suc i) = ap length (leaves-carry (λ ys. x ∷ ys) xs (at_place none call xs i)) ∙ ap suc (length_at xs i)
