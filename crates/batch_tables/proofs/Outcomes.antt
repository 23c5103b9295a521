-- Outcomes of a part, told as those of the whole.
use Rattle.std.proofs.Common.{◌≡◌, Result, sym, refl, ap, ◌∙◌}
use Rattle.texts.specs.Outcomes.{Outcome, carry, leaves, answers, Came}
use Rattle.texts.specs.Outcomes.Outcome.{taken, refused}
use Rattle.batch_tables.specs.Batches.{told_as, after, retold}

pub told-carry : {X Y R F G : Type 0} (g : F → G) (f : X → Y) (o : Outcome X R F) → told_as g (carry f o) ≡ carry f (told_as g o)
told-carry g f (taken x a) = refl
told-carry g f (refused e) = refl

pub after-carry : {X Y Z R S F : Type 0} (f : X → Y) (k : Outcome Z S F) (o : Outcome X R F) → after k (carry f o) ≡ carry f (after k o)
after-carry f (taken z s) o = refl
after-carry f (refused e) o = refl

module _ {X Y R F G : Type 0} (f : X → Y) (g : F → G) where
  answers-lifted : (o : Outcome X R F) → answers (carry f (told_as g o)) ≡ retold g (answers o)
  answers-lifted (taken x a) = refl
  answers-lifted (refused e) = refl

  leaves-lifted : (x : X) (o : Outcome X R F) → leaves (f x) (carry f (told_as g o)) ≡ f (leaves x o)
  leaves-lifted x (taken y a) = refl
  leaves-lifted x (refused e) = refl

  -- a call on the part is one on the whole
  pub came_lifted : (o : Outcome X R F) (o' : Outcome Y R G) (x x' : X) (r : Result R F) (r' : Result R G) → o' ≡ carry f (told_as g o) → r' ≡ retold g r → Came o x x' r → Came o' (f x) (f x') r'
  came_lifted o o' x x' r r' is told came = record {
    told = told ∙ ap (retold g) came.told ∙ sym (answers-lifted o) ∙ ap answers (sym is);
    left = ap f came.left ∙ sym (leaves-lifted x o) ∙ ap (leaves (f x)) (sym is);
  }
