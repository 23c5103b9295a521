-- What a call does to the map of one row.
use Rattle.std.specs.Prelude.{ℕ, Bool, List, take}
use Rattle.texts.specs.declared.stock.Text.{Text}
use Rattle.texts.specs.Outcomes.{Outcome}
use Rattle.vec_map.specs.declared.entry.Entry.{Entry}
use Rattle.vec_map.specs.declared.fault.MapFault.{MapFault}
use Rattle.map_table.specs.declared.rows.Row.{Row}
use Rattle.map_table.specs.declared.table.edits.Edit.{Edit}
use Rattle.map_table.specs.declared.table.edits.Edit.TheVariants.{Insert, Remove, Dedup, Claim}
use Rattle.vec_map.specs.Maps.{Map, removed, tidied, insert_into, claim_on, always}

-- the map of a row over its own places
abbrev pub row_map : {V : Type 0} → List (Entry Text V) → Row → Map Text V
row_map es r = record { entries = take r.len es; deduped = r.deduped }

-- what an edit comes to, on a map with so many places in all
abbrev pub edit_on : {V : Type 0} → (Text → Text → Bool) → ℕ → Edit V → Map Text V → Outcome (Map Text V) (Unit {0}) MapFault
edit_on same places (Insert k v) = insert_into places k v
edit_on same places (Remove k) = always (removed same k)
edit_on same places Dedup = always (tidied same)
edit_on same places Claim = claim_on same
