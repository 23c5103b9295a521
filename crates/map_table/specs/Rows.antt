-- A table as a list of maps, and what each call makes of it.
use Rattle.std.specs.Prelude.{◌≡◌, ℕ, Bool, true, false, cond, ◌&&◌, List, [], ◌∷◌, ◌++◌, length, Ok, Err, vec_items, Option, Result, nat_le, nat_lt, slice_index_or, slice_set}
use Rattle.std.specs.Option.{option_map, option_flatten}
use Rattle.texts.specs.declared.stock.Text.{Text}
use Rattle.texts.specs.Outcomes.{Outcome, Came, at_place}
use Rattle.texts.specs.Outcomes.Outcome.{taken, refused}
use Rattle.vec_map.specs.declared.entry.Entry.{Entry}
use Rattle.vec_map.specs.declared.fault.MapFault.{MapFault}
use Rattle.vec_map.specs.declared.fault.MapFault.TheVariants.{Full, NoPlace}
use Rattle.map_table.specs.declared.rows.Row.{Row}
use Rattle.map_table.specs.declared.table.MapTable.{MapTable}
use Rattle.map_table.specs.declared.table.TableFault.{TableFault}
use Rattle.map_table.specs.declared.table.TableFault.TheVariants.{Stride, Memory}
use Rattle.map_table.specs.declared.table.PartsFault.{PartsFault}
use Rattle.map_table.specs.declared.table.PartsFault.TheVariants as parts
use Rattle.vec_map.specs.Entries.{entry_at}
use Rattle.vec_map.specs.Maps.{Map, blank}
use Rattle.map_table.specs.Tables.{most_places, parts_fit, maps_in, OutsideStays}

-- the maps of a table
abbrev pub maps_of : {V : Type 0} → MapTable V → List (Map Text V)
maps_of t = maps_in t.stride (vec_items t.entries) (vec_items t.rows)

-- a row has at least one place, and not too many
abbrev pub stride_fits : ℕ → Bool
stride_fits stride = nat_le 1 stride && nat_le stride most_places

-- a new table has no rows, and places as asked for; it is refused exactly for a stride that does not fit, and else there may be no memory
abbrev pub TableMade : {V : Type 0} → ℕ → ℕ → Result (MapTable V) TableFault → Type 0
TableMade stride room (Ok t) = (stride_fits stride ≡ true) × (maps_of t ≡ []) × (t.stride ≡ stride) × (t.room ≡ room)
TableMade stride room (Err Stride) = stride_fits stride ≡ false
TableMade stride room (Err Memory) = stride_fits stride ≡ true

-- a table of parts has just their rows, and room for no more; it is refused exactly for parts that do not fit, and next for a stride that does not
abbrev pub TableJoined : {V : Type 0} → ℕ → List (Entry Text V) → List Row → Result (MapTable V) PartsFault → Type 0
TableJoined stride es rs (Ok t) = (parts_fit stride es rs ≡ true) × (stride_fits stride ≡ true) × (maps_of t ≡ maps_in stride es rs) × (t.stride ≡ stride) × (t.room ≡ length rs)
TableJoined stride es rs (Err parts.Stride) = (parts_fit stride es rs ≡ true) × (stride_fits stride ≡ false)
TableJoined stride es rs (Err parts.Broken) = parts_fit stride es rs ≡ false

-- the shape of a table stays
pub record ShapeStays {V : Type 0} (t t' : MapTable V) : Type 0 where
  pub stride : t'.stride ≡ t.stride
  pub room : t'.room ≡ t.room

-- a call with this outcome turned t into t' and answered r: no entry outside the places of the row changed, and the shape stays
pub record RowWorked {V : Type 0} (o : Outcome (List (Map Text V)) (Unit {0}) MapFault) (row : ℕ) (t t' : MapTable V) (r : Result (Unit {0}) MapFault) : Type 0 where
  pub came : Came o (maps_of t) (maps_of t') r
  pub outside : OutsideStays t.stride row (vec_items t.entries) (vec_items t'.entries)
  pub shape : ShapeStays t t'

-- the call was one on the map of the row; where there is no such row, it is refused for that
abbrev pub RowEdited : {V : Type 0} → (Map Text V → Outcome (Map Text V) (Unit {0}) MapFault) → ℕ → MapTable V → MapTable V → Result (Unit {0}) MapFault → Type 0
RowEdited call row t t' r = RowWorked (at_place NoPlace call (maps_of t) row) row t t' r

-- one row more, with no entries, wants room for it
abbrev pub row_added : {V : Type 0} → ℕ → List (Map Text V) → Outcome (List (Map Text V)) (Unit {0}) MapFault
row_added room ms = cond (nat_lt (length ms) room) (taken (ms ++ blank ∷ []) tt) (refused Full)

-- a copy of the row at one place over that at another wants both
abbrev pub row_copied : {V : Type 0} → ℕ → ℕ → List (Map Text V) → Outcome (List (Map Text V)) (Unit {0}) MapFault
row_copied from to ms = cond (nat_lt from (length ms) && nat_lt to (length ms)) (taken (slice_set ms to (slice_index_or ms from blank)) tt) (refused NoPlace)

-- what the row at a place answers; a missing one answers nothing
abbrev pub in_row : {V R : Type 0} → (Map Text V → Option R) → List (Map Text V) → ℕ → Option R
in_row f ms i = option_flatten (option_map f (entry_at ms i))
