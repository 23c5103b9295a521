-- What a call does to a map with typed values is what it does to the map, with the values typed after it.
use Rattle.std.proofs.Common.{◌≡◌, ℕ, Bool, true, false, cond, not, ◌&&◌, ◌||◌, ltb, List, [], ◌∷◌, map, reverse, length, Some, None, Option, sym, refl, ap, ◌∙◌}
use mathlib.Core.List.{reverse_aux}
use Rattle.std.proofs.lemmas.List.{length-map, map_push}
use Rattle.std.specs.Option.{option_map}
use Rattle.texts.specs.declared.stock.Text.{Text}
use Rattle.texts.specs.Outcomes.{Outcome, carry}
use Rattle.texts.specs.Outcomes.Outcome.{taken, refused}
use Rattle.vec_map.specs.declared.entry.Entry.{Entry}
use Rattle.vec_map.specs.declared.fault.MapFault.{MapFault}
use Rattle.vec_map.specs.declared.fault.MapFault.TheVariants.{Full}
use Rattle.vec_map.specs.Entries.{holds_by, holds_key, read_by, without, lasts, distinct}
use Rattle.vec_map.specs.Maps.{Map, inserted, removed, tidied, insert_into}
use Rattle.span.specs.declared.value.Value.{Value}
use Rattle.v04.specs.Maps.{typed_entry, typed}

module _ {X Y : Type 0} (f : X → Y) where
  map-reverse : (xs ys : List X) → reverse_aux (map f xs) (map f ys) ≡ map f (reverse_aux xs ys)
  map-reverse [] ys = refl
  map-reverse (x ∷ xs) ys = map-reverse xs (x ∷ ys)

  -- an element that a test keeps, and one that a test leaves out
  map-keep : (b : Bool) (x : X) (xs : List X) (ys : List Y) → ys ≡ map f xs → cond b (f x ∷ ys) ys ≡ map f (cond b (x ∷ xs) xs)
  map-keep true x xs ys h = ap (λ zs. f x ∷ zs) h
  map-keep false x xs ys h = h

  map-drop : (b : Bool) (x : X) (xs : List X) (ys : List Y) → ys ≡ map f xs → cond b ys (f x ∷ ys) ≡ map f (cond b xs (x ∷ xs))
  map-drop true x xs ys h = h
  map-drop false x xs ys h = ap (λ zs. f x ∷ zs) h

module _ {V : Type 0} (f : V → Value) where
  holds_typed : (test : Text → Bool) (es : List (Entry Text V)) → holds_by test (map (typed_entry f) es) ≡ holds_by test es
  holds_typed test [] = refl
  holds_typed test (e ∷ es) = ap (λ b. test e.key || b) (holds_typed test es)

  without-typed : (same : Text → Text → Bool) (k : Text) (es : List (Entry Text V)) → without same (map (typed_entry f) es) k ≡ map (typed_entry f) (without same es k)
  without-typed same k [] = refl
  without-typed same k (e ∷ es) = map-keep (typed_entry f) (not (same e.key k)) e (without same es k) _ (without-typed same k es)

  lasts-typed : (same : Text → Text → Bool) (es : List (Entry Text V)) → lasts same (map (typed_entry f) es) ≡ map (typed_entry f) (lasts same es)
  lasts-typed same [] = refl
  lasts-typed same (e ∷ es) =
      ap (λ b. cond b (lasts same (map (typed_entry f) es)) (typed_entry f e ∷ lasts same (map (typed_entry f) es))) (holds_typed (λ q. same q e.key) es)
      ∙ map-drop (typed_entry f) (holds_key same es e.key) e (lasts same es) _ (lasts-typed same es)

  pub distinct-typed : (same : Text → Text → Bool) (es : List (Entry Text V)) → distinct same (map (typed_entry f) es) ≡ distinct same es
  distinct-typed same [] = refl
  distinct-typed same (e ∷ es) =
      ap (λ b. not b && distinct same (map (typed_entry f) es)) (holds_typed (λ q. same q e.key) es)
      ∙ ap (λ b. not (holds_key same es e.key) && b) (distinct-typed same es)

  pub reads-typed : (test : Text → Bool) (es : List (Entry Text V)) → read_by test (map (typed_entry f) es) ≡ option_map f (read_by test es)
  reads-typed test [] = refl
  reads-typed test (e ∷ es) =
      ap (λ b. cond b (read_by test (map (typed_entry f) es)) (cond (test e.key) (Some (f e.value)) None)) (holds_typed test es)
      ∙ ap (λ o. cond (holds_by test es) o (cond (test e.key) (Some (f e.value)) None)) (reads-typed test es)
      ∙ by_tests (holds_by test es) (test e.key) e.value (read_by test es)
    where
      by_tests : (b c : Bool) (v : V) (o : Option V) → cond b (option_map f o) (cond c (Some (f v)) None) ≡ option_map f (cond b o (cond c (Some v) None))
      by_tests true c v o = refl
      by_tests false true v o = refl
      by_tests false false v o = refl

  pub removed-typed : (same : Text → Text → Bool) (k : Text) (m : Map Text V) → removed same k (typed f m) ≡ typed f (removed same k m)
  removed-typed same k m = ap (λ es. record { entries = es; deduped = m.deduped }) (without-typed same k m.entries)

  pub tidied-typed : (same : Text → Text → Bool) (m : Map Text V) → tidied same (typed f m) ≡ typed f (tidied same m)
  tidied-typed same m =
      ap (λ es. cond m.deduped (typed f m) (record { entries = reverse es; deduped = true })) (lasts-typed same m.entries)
      ∙ ap (λ es. cond m.deduped (typed f m) (record { entries = es; deduped = true })) (map-reverse (typed_entry f) (lasts same m.entries) [])
      ∙ by_flag m.deduped m (record { entries = reverse (lasts same m.entries); deduped = true })
    where
      by_flag : (b : Bool) (x y : Map Text V) → cond b (typed f x) (typed f y) ≡ typed f (cond b x y)
      by_flag true x y = refl
      by_flag false x y = refl

  pub insert_typed : (st : ℕ) (k : Text) (v : V) (m : Map Text V) → insert_into st k (f v) (typed f m) ≡ carry (typed f) (insert_into st k v m)
  insert_typed st k v m =
      ap (λ n. cond (ltb n st) (taken (inserted k (f v) (typed f m)) tt) (refused Full)) (length-map m.entries (typed_entry f))
      ∙ ap (λ es. cond (ltb (length m.entries) st) (taken (record { entries = es; deduped = false }) tt) (refused Full)) (sym (map_push (typed_entry f) m.entries (record { key = k; value = v })))
      ∙ by_room (ltb (length m.entries) st) (inserted k v m)
    where
      by_room : (b : Bool) (x : Map Text V) → cond {A = Outcome (Map Text Value) (Unit {0}) MapFault} b (taken (typed f x) tt) (refused Full) ≡ carry (typed f) (cond b (taken x tt) (refused Full))
      by_room true x = refl
      by_room false x = refl
