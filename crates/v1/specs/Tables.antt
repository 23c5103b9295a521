-- The tables of a v1 batch as lists: each row has one map.
use Rattle.std.specs.Prelude.{[], ◌∷◌, map}
use Rattle.texts.specs.declared.stock.Text.{Text}
use Rattle.vec_map.specs.Maps.{Map}
use Rattle.map_table.specs.declared.table.MapTable.{MapTable}
use Rattle.map_table.specs.Rows.{maps_of}
use Rattle.span.specs.declared.value.Value.{Value}
use Rattle.span.specs.Model.{Maps}
use Rattle.span.specs.Tables.{Table}

-- one map alone
abbrev pub single : Map Text Value → Maps
single m = m ∷ []

-- the spans' table and the chunks'
abbrev pub v1_table : MapTable Value → MapTable Value → Table
v1_table spans chunks = record {
  stride = chunks.stride;
  chunk_room = chunks.room;
  span_room = spans.room;
  chunks = map single (maps_of chunks);
  spans = map single (maps_of spans);
}
