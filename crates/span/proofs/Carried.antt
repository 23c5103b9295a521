-- What a call on a part comes to, as what it comes to on the whole that has the part.
use Rattle.std.proofs.Common.{◌≡◌, ℕ, zero, suc, List, [], ◌∷◌, map, Result, sym, refl, ap, ◌∙◌}
use Rattle.texts.specs.Outcomes.{Outcome, leaves, answers, carry, at_place, Came}
use Rattle.texts.specs.Outcomes.Outcome.{taken, refused}
use Rattle.map_table.proofs.Placed.{answers-carry, leaves-carry}

pub carry-carry : {X Y Z R F : Type 0} (f : Y → Z) (g : X → Y) (o : Outcome X R F) → carry f (carry g o) ≡ carry (λ x. f (g x)) o
carry-carry f g (taken x a) = refl
carry-carry f g (refused e) = refl

-- what came of a part came of the whole
pub came_carried : {X Y R F : Type 0} (f : X → Y) (o : Outcome X R F) (o' : Outcome Y R F) (before after : X) (r : Result R F) → o' ≡ carry f o → Came o before after r → Came o' (f before) (f after) r
came_carried f o o' before after r is came = record {
  told = came.told ∙ sym (answers-carry f o) ∙ ap answers (sym is);
  left = ap f came.left ∙ sym (leaves-carry f before o) ∙ ap (leaves (f before)) (sym is);
}

-- the same whole after the call
pub came_as : {X R F : Type 0} (o : Outcome X R F) (before after after' : X) (r : Result R F) → after' ≡ after → Came o before after r → Came o before after' r
came_as o before after after' r is came = record { told = came.told; left = is ∙ came.left }

-- a call at a place, where each element stands for one of another list
pub at_map : {X Y R F : Type 0} (g : X → Y) (none : F) (call : X → Outcome X R F) (call' : Y → Outcome Y R F) → ((x : X) → call' (g x) ≡ carry g (call x)) → (xs : List X) (i : ℕ) → at_place none call' (map g xs) i ≡ carry (map g) (at_place none call xs i)
at_map g none call call' along [] i = refl
at_map g none call call' along (x ∷ xs) zero = ap (carry (λ y. y ∷ map g xs)) (along x) ∙ carry-carry _ g (call x) ∙ sym (carry-carry (map g) _ (call x))
at_map g none call call' along (x ∷ xs) (suc i) = ap (carry (λ ys. g x ∷ ys)) (at_map g none call call' along xs i) ∙ carry-carry _ (map g) (at_place none call xs i) ∙ sym (carry-carry (map g) _ (at_place none call xs i))
