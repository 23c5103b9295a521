-- The two maps of a v04 span, side by side, with their values typed.
use Rattle.std.specs.Prelude.{ℕ, List, [], ◌∷◌, map, Option}
use Rattle.std.specs.Option.{option_map}
use Rattle.texts.specs.declared.stock.Text.{Text}
use Rattle.vec_map.specs.declared.entry.Entry.{Entry}
use Rattle.vec_map.specs.Entries.{entry_at}
use Rattle.vec_map.specs.Maps.{Map}
use Rattle.span.specs.declared.value.Value.{Value}
use Rattle.span.specs.declared.value.Value.TheVariants as of
use Rattle.span.specs.Model.{Maps}

-- a map with each value as a typed one
abbrev pub typed_entry : {V : Type 0} → (V → Value) → Entry Text V → Entry Text Value
typed_entry f e = record { key = e.key; value = f e.value }

abbrev pub typed : {V : Type 0} → (V → Value) → Map Text V → Map Text Value
typed f m = record { entries = map (typed_entry f) m.entries; deduped = m.deduped }

-- the maps of each span: its texts, and its floats by their bits
abbrev pub beside : List (Map Text Text) → List (Map Text ℕ) → List Maps
beside [] ns = []
beside (m ∷ ms) [] = []
beside (m ∷ ms) (n ∷ ns) = (typed of.Text m ∷ (typed of.Float n ∷ [])) ∷ beside ms ns

-- the map at a place, typed
abbrev pub typed_at : {V : Type 0} → (V → Value) → List (Map Text V) → ℕ → Option (Map Text Value)
typed_at f ms i = option_map (typed f) (entry_at ms i)
