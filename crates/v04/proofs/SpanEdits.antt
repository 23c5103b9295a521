-- What an edit makes of the rows of spans, by what edits of the two tables make of their rows.
use Rattle.std.proofs.Common.{◌≡◌, ℕ, zero, suc, Bool, true, false, cond, ◌&&◌, List, [], ◌∷◌, length, Some, None, sym, refl, ap, ◌∙◌, arith}
use Rattle.std.specs.Option.{option_map}
use Rattle.std.proofs.lemmas.Bool.{and_parts}
use Rattle.texts.specs.declared.stock.Text.{Text}
use Rattle.texts.specs.Outcomes.{Outcome, answers, carry, at_place}
use Rattle.texts.specs.Outcomes.Outcome.{taken, refused}
use Rattle.vec_map.specs.declared.fault.MapFault.{MapFault}
use Rattle.vec_map.specs.declared.fault.MapFault.TheVariants.{NoPlace, Twice}
use Rattle.vec_map.specs.Entries.{distinct, entry_at}
use Rattle.vec_map.specs.Maps.{Map, removed, tidied, claimed, insert_into, claim_on, always}
use Rattle.map_table.proofs.Placed.{answers-carry}
use Rattle.span.specs.declared.value.Value.TheVariants as of
use Rattle.span.specs.Edits.{insert_home, each_map, all_distinct, claim_all}
use Rattle.span.specs.Model.{Maps}
use Rattle.v04.specs.Edits.{both, pair, and_both}
use Rattle.v04.specs.Maps.{typed, beside}
use Rattle.span.proofs.Carried.{carry-carry}
use Rattle.v04.proofs.Calls.{at_first, at_second, at_both}
use Rattle.v04.proofs.TypedMaps.{distinct-typed, removed-typed, tidied-typed, insert_typed}

-- whether keys stand twice in one of the two maps of a span
pub distinct-pair : (same : Text → Text → Bool) (m : Map Text Text) (n : Map Text ℕ) → all_distinct same (pair m n) ≡ distinct same m.entries && distinct same n.entries
distinct-pair same m n =
    ap (λ b. b && (distinct same (typed of.Float n).entries && true)) (distinct-typed of.Text same m.entries)
    ∙ ap (λ b. distinct same m.entries && (b && true)) (distinct-typed of.Float same n.entries)
    ∙ ap (λ b. distinct same m.entries && b) (and_true (distinct same n.entries))
  where
    and_true : (b : Bool) → b && true ≡ b
    and_true true = refl
    and_true false = refl

module _ (ms : List (Map Text Text)) (ns : List (Map Text ℕ)) (i : ℕ) (paired : length ns ≡ length ms) where
  pub insert_first : (st : ℕ) (k v : Text) → at_place NoPlace (insert_home st (Some 0) k (of.Text v)) (beside ms ns) i ≡ carry (λ xs. beside xs ns) (at_place NoPlace (insert_into st k v) ms i)
  insert_first st k v =
      at_first NoPlace (insert_home st (Some 0) k (of.Text v)) (insert_into st k v)
      (λ m n. ap (carry (λ y. y ∷ (typed of.Float n ∷ []))) (insert_typed of.Text st k v m) ∙ carry-carry (λ y. y ∷ (typed of.Float n ∷ [])) (typed of.Text) (insert_into st k v m))
      ms ns i paired

  pub insert_second : (st : ℕ) (k : Text) (v : ℕ) → at_place NoPlace (insert_home st (Some 1) k (of.Float v)) (beside ms ns) i ≡ carry (λ xs. beside ms xs) (at_place NoPlace (insert_into st k v) ns i)
  insert_second st k v =
      at_second NoPlace (insert_home st (Some 1) k (of.Float v)) (insert_into st k v)
      (λ m n. ap (λ o. carry (λ ys. typed of.Text m ∷ ys) (carry (λ y. y ∷ []) o)) (insert_typed of.Float st k v n)
      ∙ ap (carry (λ ys. typed of.Text m ∷ ys)) (carry-carry (λ y. y ∷ []) (typed of.Float) (insert_into st k v n))
      ∙ carry-carry (λ ys. typed of.Text m ∷ ys) (λ x. typed of.Float x ∷ []) (insert_into st k v n))
      ms ns i paired

  pub remove_both : (same : Text → Text → Bool) (k : Text) → at_place NoPlace (each_map (removed same k)) (beside ms ns) i ≡ both beside (at_place NoPlace (always (removed same k)) ms i) (at_place NoPlace (always (removed same k)) ns i)
  remove_both same k =
      at_both NoPlace (each_map (removed same k)) (always (removed same k)) (always (removed same k))
      (λ m n. ap (λ x. taken (x ∷ (removed same k (typed of.Float n) ∷ [])) tt) (removed-typed of.Text same k m)
      ∙ ap (λ y. taken (typed of.Text (removed same k m) ∷ (y ∷ [])) tt) (removed-typed of.Float same k n))
      ms ns i paired

  pub dedup_both : (same : Text → Text → Bool) → at_place NoPlace (each_map (tidied same)) (beside ms ns) i ≡ both beside (at_place NoPlace (always (tidied same)) ms i) (at_place NoPlace (always (tidied same)) ns i)
  dedup_both same =
      at_both NoPlace (each_map (tidied same)) (always (tidied same)) (always (tidied same))
      (λ m n. ap (λ x. taken (x ∷ (tidied same (typed of.Float n) ∷ [])) tt) (tidied-typed of.Text same m)
      ∙ ap (λ y. taken (typed of.Text (tidied same m) ∷ (y ∷ [])) tt) (tidied-typed of.Float same n))
      ms ns i paired

  pub claim_both : (same : Text → Text → Bool) → at_place NoPlace (claim_all same) (beside ms ns) i ≡ both beside (at_place NoPlace (claim_on same) ms i) (at_place NoPlace (claim_on same) ns i)
  claim_both same =
      at_both NoPlace (claim_all same) (claim_on same) (claim_on same)
      (λ m n. ap (λ b. cond b (taken (pair (claimed m) (claimed n)) tt) (refused Twice)) (distinct-pair same m n) ∙ by_tests m n (distinct same m.entries) (distinct same n.entries))
      ms ns i paired
    where
      by_tests : (m : Map Text Text) (n : Map Text ℕ) (b c : Bool) → cond {A = Outcome Maps (Unit {0}) MapFault} (b && c) (taken (pair (claimed m) (claimed n)) tt) (refused Twice) ≡ both pair (cond b (taken (claimed m) tt) (refused Twice)) (cond c (taken (claimed n) tt) (refused Twice))
      by_tests m n true true = refl
      by_tests m n true false = refl
      by_tests m n false c = refl

-- what is asked before a claim
pub distinct-at : (same : Text → Text → Bool) (ms : List (Map Text Text)) (ns : List (Map Text ℕ)) (i : ℕ) → length ns ≡ length ms
    → option_map (all_distinct same) (entry_at (beside ms ns) i) ≡ and_both (option_map (λ m. distinct same m.entries) (entry_at ms i)) (option_map (λ n. distinct same n.entries) (entry_at ns i))
distinct-at same [] ns i h = refl
distinct-at same (m ∷ ms) [] i h = absurd (omega arith)
distinct-at same (m ∷ ms) (n ∷ ns) zero h = ap Some (distinct-pair same m n)
distinct-at same (m ∷ ms) (n ∷ ns) (suc i) h = distinct-at same ms ns i (omega arith)

-- a claim of a row that is missing, of one with a key that stands twice, and of one with none
pub claim_missing : {X Y R F : Type 0} (f : X → Y) (none : F) (call : X → Outcome X R F) (xs : List X) (i : ℕ) → None ≡ option_map f (entry_at xs i) → at_place none call xs i ≡ refused none
claim_missing f none call [] i e = refl
claim_missing f none call (x ∷ xs) zero e = let z : ◌≡◌ {A = ℕ} 0 1 = cc in absurd (omega arith)
claim_missing f none call (x ∷ xs) (suc i) e = ap (carry (λ ys. x ∷ ys)) (claim_missing f none call xs i e)

pub claim_twice : (same : Text → Text → Bool) (xs : List Maps) (i : ℕ) → Some false ≡ option_map (all_distinct same) (entry_at xs i) → at_place NoPlace (claim_all same) xs i ≡ refused Twice
claim_twice same [] i e = let z : ◌≡◌ {A = ℕ} 0 1 = cc in absurd (omega arith)
claim_twice same (x ∷ xs) zero e =
    let is : all_distinct same x ≡ false = cc in
    ap (λ b. carry (λ y. y ∷ xs) (cond b (each_map claimed x) (refused Twice))) is
claim_twice same (x ∷ xs) (suc i) e = ap (carry (λ ys. x ∷ ys)) (claim_twice same xs i e)

pub claim_alike : (same : Text → Text → Bool) (ms : List (Map Text Text)) (ns : List (Map Text ℕ)) (i : ℕ) → length ns ≡ length ms
    → Some true ≡ option_map (all_distinct same) (entry_at (beside ms ns) i) → answers (at_place NoPlace (claim_on same) ms i) ≡ answers (at_place NoPlace (claim_on same) ns i)
claim_alike same [] [] i h e = refl
claim_alike same [] (n ∷ ns) i h e = absurd (omega arith)
claim_alike same (m ∷ ms) [] i h e = absurd (omega arith)
claim_alike same (m ∷ ms) (n ∷ ns) zero h e =
    let is : all_distinct same (pair m n) ≡ true = cc in
    let parts = and_parts (distinct same m.entries) (distinct same n.entries) (sym (distinct-pair same m n) ∙ is) in
    ap (λ b. answers (carry (λ y. y ∷ ms) (cond b (taken (claimed m) tt) (refused Twice)))) parts.0 ∙ ap (λ b. answers (carry (λ y. y ∷ ns) (cond b (taken (claimed n) tt) (refused Twice)))) (sym parts.1)
claim_alike same (m ∷ ms) (n ∷ ns) (suc i) h e = answers-carry (λ ys. m ∷ ys) _ ∙ claim_alike same ms ns i (omega arith) e ∙ sym (answers-carry (λ ys. n ∷ ys) _)
