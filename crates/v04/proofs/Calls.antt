-- A call on the maps of one span, as calls on its rows in the two tables.
use Rattle.std.proofs.Common.{◌≡◌, ℕ, zero, suc, ◌<◌, List, [], ◌∷◌, length, replicate, sym, refl, ap, ◌∙◌, arith}
use Rattle.texts.specs.declared.stock.Text.{Text}
use Rattle.texts.specs.Outcomes.{Outcome, leaves, answers, carry, at_place}
use Rattle.texts.specs.Outcomes.Outcome.{taken, refused}
use Rattle.vec_map.specs.Maps.{Map}
use Rattle.map_table.proofs.Placed.{answers-carry}
use Rattle.span.specs.Model.{Maps}
use Rattle.span.proofs.Carried.{carry-carry}
use Rattle.v04.specs.Edits.{both, pair}
use Rattle.v04.specs.Maps.{beside}

module _ {R F : Type 0} (none : F) (whole : Maps → Outcome Maps R F) where
  -- a call that works on the first map alone
  pub at_first : (call : Map Text Text → Outcome (Map Text Text) R F) → ((m : Map Text Text) (n : Map Text ℕ) → whole (pair m n) ≡ carry (λ x. pair x n) (call m))
      → (ms : List (Map Text Text)) (ns : List (Map Text ℕ)) (i : ℕ) → length ns ≡ length ms → at_place none whole (beside ms ns) i ≡ carry (λ xs. beside xs ns) (at_place none call ms i)
  at_first call is [] ns i h = refl
  at_first call is (m ∷ ms) [] i h = absurd (omega arith)
  at_first call is (m ∷ ms) (n ∷ ns) zero h =
      ap (carry (λ y. y ∷ beside ms ns)) (is m n)
      ∙ carry-carry (λ y. y ∷ beside ms ns) (λ x. pair x n) (call m)
      ∙ sym (carry-carry (λ xs. beside xs (n ∷ ns)) (λ x. x ∷ ms) (call m))
  at_first call is (m ∷ ms) (n ∷ ns) (suc i) h =
      ap (carry (λ ys. pair m n ∷ ys)) (at_first call is ms ns i (omega arith))
      ∙ carry-carry (λ ys. pair m n ∷ ys) (λ xs. beside xs ns) (at_place none call ms i)
      ∙ sym (carry-carry (λ xs. beside xs (n ∷ ns)) (λ xs. m ∷ xs) (at_place none call ms i))

  -- a call that works on the second map alone
  pub at_second : (call : Map Text ℕ → Outcome (Map Text ℕ) R F) → ((m : Map Text Text) (n : Map Text ℕ) → whole (pair m n) ≡ carry (λ x. pair m x) (call n))
      → (ms : List (Map Text Text)) (ns : List (Map Text ℕ)) (i : ℕ) → length ns ≡ length ms → at_place none whole (beside ms ns) i ≡ carry (λ xs. beside ms xs) (at_place none call ns i)
  at_second call is [] [] i h = refl
  at_second call is [] (n ∷ ns) i h = absurd (omega arith)
  at_second call is (m ∷ ms) [] i h = absurd (omega arith)
  at_second call is (m ∷ ms) (n ∷ ns) zero h =
      ap (carry (λ y. y ∷ beside ms ns)) (is m n)
      ∙ carry-carry (λ y. y ∷ beside ms ns) (λ x. pair m x) (call n)
      ∙ sym (carry-carry (λ xs. beside (m ∷ ms) xs) (λ x. x ∷ ns) (call n))
  at_second call is (m ∷ ms) (n ∷ ns) (suc i) h =
      ap (carry (λ ys. pair m n ∷ ys)) (at_second call is ms ns i (omega arith))
      ∙ carry-carry (λ ys. pair m n ∷ ys) (λ xs. beside ms xs) (at_place none call ns i)
      ∙ sym (carry-carry (λ xs. beside (m ∷ ms) xs) (λ xs. n ∷ xs) (at_place none call ns i))

  -- a call that works on both
  pub at_both : (call : Map Text Text → Outcome (Map Text Text) R F) (call' : Map Text ℕ → Outcome (Map Text ℕ) R F) → ((m : Map Text Text) (n : Map Text ℕ) → whole (pair m n) ≡ both pair (call m) (call' n))
      → (ms : List (Map Text Text)) (ns : List (Map Text ℕ)) (i : ℕ) → length ns ≡ length ms → at_place none whole (beside ms ns) i ≡ both beside (at_place none call ms i) (at_place none call' ns i)
  at_both call call' is [] ns i h = refl
  at_both call call' is (m ∷ ms) [] i h = absurd (omega arith)
  at_both call call' is (m ∷ ms) (n ∷ ns) zero h = ap (carry (λ y. y ∷ beside ms ns)) (is m n) ∙ by_outcomes (call m) (call' n)
    where
      by_outcomes : (o : Outcome (Map Text Text) R F) (p : Outcome (Map Text ℕ) R F) → carry (λ y. y ∷ beside ms ns) (both pair o p) ≡ both beside (carry (λ x. x ∷ ms) o) (carry (λ x. x ∷ ns) p)
      by_outcomes (taken x a) (taken y b) = refl
      by_outcomes (taken x a) (refused e) = refl
      by_outcomes (refused e) p = refl
  at_both call call' is (m ∷ ms) (n ∷ ns) (suc i) h = ap (carry (λ ys. pair m n ∷ ys)) (at_both call call' is ms ns i (omega arith)) ∙ by_outcomes (at_place none call ms i) (at_place none call' ns i)
    where
      by_outcomes : (o : Outcome (List (Map Text Text)) R F) (p : Outcome (List (Map Text ℕ)) R F) → carry (λ ys. pair m n ∷ ys) (both beside o p) ≡ both beside (carry (λ xs. m ∷ xs) o) (carry (λ xs. n ∷ xs) p)
      by_outcomes (taken x a) (taken y b) = refl
      by_outcomes (taken x a) (refused e) = refl
      by_outcomes (refused e) p = refl

-- a call that every element refuses, and one that refuses the one element of which there are so many
module _ {X R F : Type 0} (none why : F) (call : X → Outcome X R F) where
  pub refused-at : ((x : X) → call x ≡ refused why) → (xs : List X) (i : ℕ) → i < length xs → at_place none call xs i ≡ refused why
  refused-at is [] i lt = absurd (omega arith)
  refused-at is (x ∷ xs) zero lt = ap (carry (λ y. y ∷ xs)) (is x)
  refused-at is (x ∷ xs) (suc i) lt = ap (carry (λ ys. x ∷ ys)) (refused-at is xs i (omega arith))

  pub refused_all : (x : X) → call x ≡ refused why → (n i : ℕ) → i < n → at_place none call (replicate n x) i ≡ refused why
  refused_all x is zero i lt = absurd (omega arith)
  refused_all x is (suc n) zero lt = ap (carry (λ y. y ∷ replicate n x)) is
  refused_all x is (suc n) (suc i) lt = ap (carry (λ ys. x ∷ ys)) (refused_all x is n i (omega arith))

-- where both calls are answered alike, what both leave is what each of them leaves
module _ {X Y Z F : Type 0} (f : X → Y → Z) where
  pub answers-both : (o : Outcome X (Unit {0}) F) (p : Outcome Y (Unit {0}) F) → answers o ≡ answers p → answers (both f o p) ≡ answers o
  answers-both (taken x a) (taken y b) e = refl
  answers-both (taken x a) (refused w) e = sym e
  answers-both (refused w) p e = refl

  pub leaves-both : (x : X) (y : Y) (o : Outcome X (Unit {0}) F) (p : Outcome Y (Unit {0}) F) → answers o ≡ answers p → leaves (f x y) (both f o p) ≡ f (leaves x o) (leaves y p)
  leaves-both x y (taken v a) (taken w b) e = refl
  leaves-both x y (taken v a) (refused w) e = let z : ◌≡◌ {A = ℕ} 0 1 = cc in absurd (omega arith)
  leaves-both x y (refused v) (taken w b) e = let z : ◌≡◌ {A = ℕ} 0 1 = cc in absurd (omega arith)
  leaves-both x y (refused v) (refused w) e = refl

-- calls that are never refused are answered alike on lists of one length
module _ {X Y F : Type 0} (none : F) (f : X → X) (g : Y → Y) where
  pub answered_alike : (xs : List X) (ys : List Y) (i : ℕ) → length ys ≡ length xs → answers {R = Unit {0}} (at_place none (λ x. taken (f x) tt) xs i) ≡ answers (at_place none (λ y. taken (g y) tt) ys i)
  answered_alike [] [] i h = refl
  answered_alike [] (y ∷ ys) i h = absurd (omega arith)
  answered_alike (x ∷ xs) [] i h = absurd (omega arith)
  answered_alike (x ∷ xs) (y ∷ ys) zero h = refl
  answered_alike (x ∷ xs) (y ∷ ys) (suc i) h = answers-carry (λ zs. x ∷ zs) _ ∙ answered_alike xs ys i (omega arith) ∙ sym (answers-carry (λ zs. y ∷ zs) _)
