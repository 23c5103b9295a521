-- The tables of maps of a v04 batch, as lists.
use Rattle.std.specs.Prelude.{◌≡◌, ℕ, ◌≤◌, List, [], length, replicate}
use Rattle.texts.specs.declared.stock.Text.{Text}
use Rattle.texts.specs.Outcomes.{Outcome, at_place}
use Rattle.texts.specs.Stocks.{Texts, same_text}
use Rattle.vec_map.specs.declared.fault.MapFault.{MapFault}
use Rattle.vec_map.specs.declared.fault.MapFault.TheVariants.{NoPlace}
use Rattle.vec_map.specs.Maps.{Map}
use Rattle.map_table.specs.declared.table.MapTable.{MapTable}
use Rattle.map_table.specs.declared.table.edits.Edit.{Edit}
use Rattle.map_table.specs.Edits.{edit_on}
use Rattle.map_table.specs.Rows.{maps_of}
use Rattle.span.specs.Tables.{Table}
use Rattle.v04.specs.declared.maps.V04Maps.TheInside.{Inside}
use Rattle.v04.specs.Maps.{beside}

-- a chunk has no maps, so that chunks are only counted
abbrev pub v04_table : Inside → Table
v04_table m = record {
  stride = m.meta.stride;
  chunk_room = m.chunk_room;
  span_room = m.meta.room;
  chunks = replicate m.chunks [];
  spans = beside (maps_of m.meta) (maps_of m.metrics);
}

-- the two tables have the same rows, and there is room for the chunks
pub record SameRows (m : Inside) : Type 0 where
  pub paired : length (maps_of m.metrics) ≡ length (maps_of m.meta)
  pub strides : m.metrics.stride ≡ m.meta.stride
  pub rooms : m.metrics.room ≡ m.meta.room
  pub within : m.chunks ≤ m.chunk_room

-- what an edit of a row makes of a table
abbrev pub row_edited : {V : Type 0} → Texts → Edit V → ℕ → MapTable V → Outcome (List (Map Text V)) (Unit {0}) MapFault
row_edited t e p m = at_place NoPlace (edit_on (same_text t) m.stride e) (maps_of m) p
