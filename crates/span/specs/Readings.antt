-- What the maps of a span or chunk read, by the bytes of a key.
use Rattle.std.specs.Prelude.{ℕ, List, [], Some, None, Option}
use Rattle.std.specs.Option.{unwrap_or}
use Rattle.texts.specs.declared.stock.Text.{Text}
use Rattle.texts.specs.Stocks.{Texts}
use Rattle.vec_map.specs.Entries.{entry_at}
use Rattle.vec_map.specs.Maps.{Map}
use Rattle.vec_map.specs.Readings.{reads}
use Rattle.span.specs.declared.fields.Fields.{Fields}
use Rattle.span.specs.declared.value.Value.{Value}
use Rattle.span.specs.Model.{Bytes, Maps, Span}

-- what each map reads at each key
abbrev pub Readings : Type 0
Readings = ℕ → Bytes → Option Value

abbrev pub read_in : Texts → Option (Map Text Value) → Bytes → Option Value
read_in t None q = None
read_in t (Some m) q = reads t m.entries q

abbrev pub readings : Texts → Maps → Readings
readings t ms i q = read_in t (entry_at ms i) q

-- a span by its fields and readings
pub record Face (O : Type 0) : Type 0 where
  pub fields : Fields O
  pub reads : Readings

abbrev pub face : {O : Type 0} → Texts → Span O → Face O
face t s = record { fields = s.fields; reads = readings t s.maps }

-- the maps at a place; where there are none, nothing is read
abbrev pub maps_at : List Maps → ℕ → Maps
maps_at rows i = unwrap_or (entry_at rows i) []

-- the span with these fields whose maps stand at a place
abbrev pub face_at : {O : Type 0} → Texts → Fields O → List Maps → ℕ → Face O
face_at t f rows i = record { fields = f; reads = readings t (maps_at rows i) }
