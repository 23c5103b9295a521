-- What is read of a row with its values typed, by what is read of the row.
use Rattle.std.proofs.Common.{◌≡◌, ℕ, zero, suc, ◌≤◌, List, [], ◌∷◌, length, Some, None, Option, refl, ap, ◌∙◌, arith}
use Rattle.std.specs.Option.{option_map, option_flatten}
use Rattle.std.specs.Str.{bytes_eq}
use Rattle.texts.specs.declared.stock.Text.{Text}
use Rattle.texts.specs.Stocks.{Texts}
use Rattle.vec_map.specs.Entries.{entry_at}
use Rattle.vec_map.specs.Maps.{Map}
use Rattle.vec_map.specs.Readings.{reads}
use Rattle.map_table.specs.Rows.{in_row}
use Rattle.span.specs.declared.value.Value.{Value}
use Rattle.span.specs.declared.value.Value.TheVariants as of
use Rattle.span.specs.Readings.{read_in, maps_at}
use Rattle.v04.specs.Maps.{typed, typed_at, beside}
use Rattle.v04.proofs.TypedMaps.{reads-typed}

module _ {V : Type 0} (f : V → Value) where
  read_typed : (t : Texts) (q : List ℕ) (o : Option (Map Text V)) → read_in t (option_map (typed f) o) q ≡ option_map f (option_flatten (option_map (λ m. reads t m.entries q) o))
  read_typed t q None = refl
  read_typed t q (Some m) = reads-typed f (λ k. bytes_eq (t.bytes k) q) m.entries

  pub read_at : (t : Texts) (q : List ℕ) (ms : List (Map Text V)) (i : ℕ) → read_in t (typed_at f ms i) q ≡ option_map f (in_row (λ m. reads t m.entries q) ms i)
  read_at t q ms i = read_typed t q (entry_at ms i)

-- the maps of the span at a place, by their numbers
pub first-at : (ms : List (Map Text Text)) (ns : List (Map Text ℕ)) (i : ℕ) → length ns ≡ length ms → entry_at (maps_at (beside ms ns) i) 0 ≡ typed_at of.Text ms i
first-at [] ns i h = refl
first-at (m ∷ ms) [] i h = absurd (omega arith)
first-at (m ∷ ms) (n ∷ ns) zero h = refl
first-at (m ∷ ms) (n ∷ ns) (suc i) h = first-at ms ns i (omega arith)

pub second_at : (ms : List (Map Text Text)) (ns : List (Map Text ℕ)) (i : ℕ) → length ns ≡ length ms → entry_at (maps_at (beside ms ns) i) 1 ≡ typed_at of.Float ns i
second_at [] [] i h = refl
second_at [] (n ∷ ns) i h = absurd (omega arith)
second_at (m ∷ ms) [] i h = absurd (omega arith)
second_at (m ∷ ms) (n ∷ ns) zero h = refl
second_at (m ∷ ms) (n ∷ ns) (suc i) h = second_at ms ns i (omega arith)

pub map-0 : (ms : List (Map Text Text)) (ns : List (Map Text ℕ)) (i j : ℕ) → length ns ≡ length ms → j ≡ 0 → entry_at (maps_at (beside ms ns) i) j ≡ typed_at of.Text ms i
map-0 ms ns i j h is = ap (entry_at (maps_at (beside ms ns) i)) is ∙ first-at ms ns i h

pub map-1 : (ms : List (Map Text Text)) (ns : List (Map Text ℕ)) (i j : ℕ) → length ns ≡ length ms → j ≡ 1 → entry_at (maps_at (beside ms ns) i) j ≡ typed_at of.Float ns i
map-1 ms ns i j h is = ap (entry_at (maps_at (beside ms ns) i)) is ∙ second_at ms ns i h

pub map-2 : (ms : List (Map Text Text)) (ns : List (Map Text ℕ)) (i j : ℕ) → 2 ≤ j → entry_at (maps_at (beside ms ns) i) j ≡ None
map-2 [] ns i j le = refl
map-2 (m ∷ ms) [] i j le = refl
map-2 (m ∷ ms) (n ∷ ns) zero zero le = absurd (omega arith)
map-2 (m ∷ ms) (n ∷ ns) zero (suc zero) le = absurd (omega arith)
map-2 (m ∷ ms) (n ∷ ns) zero (suc (suc j)) le = refl
map-2 (m ∷ ms) (n ∷ ns) (suc i) j le = map-2 ms ns i j le
