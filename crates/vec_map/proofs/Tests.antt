-- Walks over entries that look for the keys that pass a test.
use Rattle.std.proofs.Common.{◌≡◌, ℕ, zero, suc, ◌+◌, ◌<◌, Bool, true, false, ◌||◌, List, [], ◌∷◌, reverse, length, get_or, drop, find, All, HoldsAt, Option, Some, None, is_some, MatchOption, sym, refl, ap, ◌∙◌, arith}
use Rattle.std.specs.Option.{option_map}
use Rattle.std.proofs.lemmas.Bool.{cases_Bool}
use Rattle.std.proofs.lemmas.List.{get_or-drop, length-drop, reverse-append}
use Rattle.std.proofs.lemmas.List.Folds.{list_any_none, find-append}
use Rattle.vec_map.specs.declared.entry.Entry.{Entry}
use Rattle.vec_map.specs.Entries.{holds_by, read_by, LastBy}

module _ {K V : Type 0} (test : K → Bool) where
  -- a walk from the back that ends at a place, or finds none
  pub last_from_places : (es : List (Entry K V)) (r : Option ℕ)
      → MatchOption r (All (λ e. test e.key ≡ false) es) (λ i. (i < length es) × HoldsAt (λ e. test e.key ≡ true) es i × ((j : ℕ) (d : Entry K V) → i < j → j < length es → test (get_or es j d).key ≡ false))
      → MatchOption r (holds_by test es ≡ false) (LastBy test es)
  last_from_places es None none = list_any_none (λ e. test e.key) es none
  last_from_places es (Some i) (lt, here, after) = record {
    within = lt;
    here = here;
    after = list_any_none (λ e. test e.key) (drop (i + 1) es)
        (λ k d low. ap (λ (e : Entry K V). test e.key) (get_or-drop (i + 1) es k d) ∙ after (i + 1 + k) d (omega arith) (omega (arith, length-drop (i + 1) es)));
  }

  read_some : (es : List (Entry K V)) → is_some (read_by test es) ≡ holds_by test es
  read_some [] = refl
  read_some (e ∷ es) = grind (arith, read_some es, cases_Bool (holds_by test es), cases_Bool (test e.key))

  -- the last that passes is the first from the back
  pub read_back : (es : List (Entry K V)) → read_by test es ≡ option_map (λ e. e.value) (find (λ e. test e.key) (reverse es))
  read_back [] = refl
  read_back (e ∷ es) = grind (arith, read_back es, read_some es, reverse-append (e ∷ []) es, find-append (λ e. test e.key) (reverse es) (e ∷ []), cases_Bool (holds_by test es), cases_Bool (test e.key))

  held_at : (es : List (Entry K V)) (i : ℕ) (d : Entry K V) → i < length es → test (get_or es i d).key ≡ true → holds_by test es ≡ true
  held_at [] i d lt h = absurd (omega arith)
  held_at (e ∷ es) zero d lt h = ap (λ b. b || holds_by test es) h
  held_at (e ∷ es) (suc i) d lt h = grind (arith, held_at es i d (omega arith) h, cases_Bool (test e.key))

  read-at : (es : List (Entry K V)) (i : ℕ) (d : Entry K V) → i < length es → test (get_or es i d).key ≡ true → holds_by test (drop (suc i) es) ≡ false → read_by test es ≡ Some (get_or es i d).value
  read-at [] i d lt h out = absurd (omega arith)
  read-at (e ∷ es) zero d lt h out = grind (arith, h, out)
  read-at (e ∷ es) (suc i) d lt h out = grind (arith, held_at es i d (omega arith) h, read-at es i d (omega arith) h out)

  -- the value at the last place is what is read, which says of a place what `read_back` says of a walk
  pub read-last : (es : List (Entry K V)) (i : ℕ) (d : Entry K V) → LastBy test es i → Some (get_or es i d).value ≡ read_by test es
  read-last es i d l =
      let n : i + 1 ≡ suc i = omega arith in
      sym (read-at es i d l.within (l.here d) (ap (λ m. holds_by test (drop m es)) (sym n) ∙ l.after))
