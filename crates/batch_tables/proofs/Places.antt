-- A call on the element at a place: of a part of a list, and what it leaves of the length.
use Rattle.std.proofs.Common.{◌≡◌, ℕ, zero, suc, ◌-◌, ◌<◌, ◌≤◌, List, [], ◌∷◌, ◌++◌, length, sym, refl, ap, ◌∙◌, arith}
use Rattle.texts.specs.Outcomes.{Outcome, carry, at_place}
use Rattle.texts.specs.Outcomes.Outcome.{taken, refused}
use Rattle.batch_tables.specs.Batches.{told_as, after}
use Rattle.span.proofs.Carried.{carry-carry}

module _ {X R F : Type 0} (none : F) (call : X → Outcome X R F) where
  pub none_past : (xs : List X) (p : ℕ) → length xs ≤ p → at_place none call xs p ≡ refused none
  none_past [] p le = refl
  none_past (x ∷ xs) zero le = absurd (omega arith)
  none_past (x ∷ xs) (suc p) le = ap (carry (λ ys. x ∷ ys)) (none_past xs p (omega arith))

  -- in the first part of a list
  pub at_front : (xs ys : List X) (p : ℕ) → p < length xs → at_place none call (xs ++ ys) p ≡ carry (λ zs. zs ++ ys) (at_place none call xs p)
  at_front [] ys p lt = absurd (omega arith)
  at_front (x ∷ xs) ys zero lt = sym (carry-carry (λ zs. zs ++ ys) (λ y. y ∷ xs) (call x))
  at_front (x ∷ xs) ys (suc p) lt =
      ap (carry (λ zs. x ∷ zs)) (at_front xs ys p (omega arith)) ∙ carry-carry (λ zs. x ∷ zs) (λ zs. zs ++ ys) (at_place none call xs p)
      ∙ sym (carry-carry (λ zs. zs ++ ys) (λ zs. x ∷ zs) (at_place none call xs p))

  -- in what follows the first part
  pub at_back : (xs ys : List X) (p : ℕ) → length xs ≤ p → at_place none call (xs ++ ys) p ≡ carry (λ zs. xs ++ zs) (at_place none call ys (p - length xs))
  at_back [] ys p le =
      let z : p - 0 ≡ p = omega arith in
      whole (at_place none call ys p) ∙ ap (λ n. carry (λ zs. zs) (at_place none call ys n)) (sym z)
    where
      whole : (o : Outcome (List X) R F) → o ≡ carry (λ zs. zs) o
      whole (taken x a) = refl
      whole (refused e) = refl
  at_back (x ∷ xs) ys zero le = absurd (omega arith)
  at_back (x ∷ xs) ys (suc p) le =
      let z : suc p - suc (length xs) ≡ p - length xs = omega arith in
      ap (carry (λ zs. x ∷ zs)) (at_back xs ys p (omega arith)) ∙ carry-carry (λ zs. x ∷ zs) (λ zs. xs ++ zs) (at_place none call ys (p - length xs))
      ∙ ap (λ n. carry (λ zs. x ∷ (xs ++ zs)) (at_place none call ys n)) (sym z)

module _ {X Y R F G : Type 0} (none : F) (call : X → Outcome X R F) (g : F → G) where
  same_first : (f h : List X → Y) (xs : List X) (o : Outcome X R F) → ((y : X) → f (y ∷ xs) ≡ h (y ∷ xs)) → carry f (told_as g (carry (λ y. y ∷ xs) o)) ≡ carry h (told_as g (carry (λ y. y ∷ xs) o))
  same_first f h xs (taken y a) e = ap (λ z. taken z a) (e y)
  same_first f h xs (refused e') e = refl

  same_rest : (f h : List X → Y) (x : X) (o : Outcome (List X) R F) → carry (λ zs. f (x ∷ zs)) (told_as g o) ≡ carry (λ zs. h (x ∷ zs)) (told_as g o) → carry f (told_as g (carry (λ zs. x ∷ zs) o)) ≡ carry h (told_as g (carry (λ zs. x ∷ zs) o))
  same_rest f h x (taken y a) e = e
  same_rest f h x (refused e') e = e

  -- what is left is as long as what stood, so two wholes that agree at that length are one
  pub carry-long : (f h : List X → Y) (xs : List X) (p : ℕ) → ((zs : List X) → length zs ≡ length xs → f zs ≡ h zs) → carry f (told_as g (at_place none call xs p)) ≡ carry h (told_as g (at_place none call xs p))
  carry-long f h [] p e = refl
  carry-long f h (x ∷ xs) zero e = same_first f h xs (call x) (λ y. e (y ∷ xs) refl)
  carry-long f h (x ∷ xs) (suc p) e = same_rest f h x (at_place none call xs p) (carry-long (λ zs. f (x ∷ zs)) (λ zs. h (x ∷ zs)) xs p (λ zs l. e (x ∷ zs) (ap suc l)))

module _ {X Y R F : Type 0} (none : F) (call : X → Outcome X R F) where
  untold : (f : List X → Y) (o : Outcome (List X) R F) → carry f (told_as (λ e. e) o) ≡ carry f o
  untold f (taken x a) = refl
  untold f (refused e) = refl

  -- the same where the refusal is told as it is
  pub carry_same : (f h : List X → Y) (xs : List X) (p : ℕ) → ((zs : List X) → length zs ≡ length xs → f zs ≡ h zs) → carry f (at_place none call xs p) ≡ carry h (at_place none call xs p)
  carry_same f h xs p e = sym (untold f (at_place none call xs p)) ∙ carry-long none call (λ e'. e') f h xs p e ∙ untold h (at_place none call xs p)

missed : {X R F : Type 0} (none e : F) (xs : List X) (p : ℕ) → p < length xs → at_place {R = R} none (λ x. refused e) xs p ≡ refused e
missed none e [] p lt = absurd (omega arith)
missed none e (x ∷ xs) zero lt = refl
missed none e (x ∷ xs) (suc p) lt = ap (carry (λ ys. x ∷ ys)) (missed none e xs p (omega arith))

-- what is asked first may be asked at the place
pub after-place : {X Z R S F : Type 0} (none : F) (k : Outcome Z S F) (call : X → Outcome X R F) (xs : List X) (p : ℕ) → p < length xs → at_place none (λ x. after k (call x)) xs p ≡ after k (at_place none call xs p)
after-place none (taken z s) call xs p lt = refl
after-place none (refused e) call xs p lt = missed none e xs p lt
