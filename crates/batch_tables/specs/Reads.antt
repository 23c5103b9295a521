-- What can be read of a batch: its chunks, its spans, and their maps.
use Rattle.std.specs.Prelude.{ℕ, [], length, Option}
use Rattle.std.specs.Option.{option_map, unwrap_or}
use Rattle.texts.specs.declared.stock.Text.{Text}
use Rattle.vec_map.specs.Entries.{entry_at}
use Rattle.vec_map.specs.Maps.{Map}
use Rattle.span.specs.declared.fields.Fields.{Fields}
use Rattle.span.specs.declared.owner.Owner.{Owner}
use Rattle.span.specs.declared.owner.Owner.TheVariants as at
use Rattle.span.specs.declared.value.Value.{Value}
use Rattle.span.specs.Model.{Maps, Chunk, Batch}
use Rattle.batch_tables.specs.declared.limits.ChunkRow.{ChunkRow}
use Rattle.batch_tables.specs.Batches.{all_spans}

module _ {H O : Type 0} where
  -- how many spans a chunk has, and what the edition has of it
  abbrev pub chunk_row : Chunk H O → ChunkRow H
  chunk_row c = record { count = length c.spans; head = c.head }

  abbrev pub chunk_at : Batch H O → ℕ → Option (ChunkRow H)
  chunk_at b i = option_map chunk_row (entry_at b i)

  -- the fields of a span, by its place in the whole batch
  abbrev pub fields_at : Batch H O → ℕ → Option (Fields O)
  fields_at b p = option_map (λ s. s.fields) (entry_at (all_spans b) p)

  -- the maps of a span or chunk; of one that is not there, none
  abbrev pub maps_in : Owner → Batch H O → Maps
  maps_in (at.Span p) b = unwrap_or (option_map (λ s. s.maps) (entry_at (all_spans b) p)) []
  maps_in (at.Chunk p) b = unwrap_or (option_map (λ c. c.maps) (entry_at b p)) []

  abbrev pub map_in : Owner → ℕ → Batch H O → Option (Map Text Value)
  map_in o which b = entry_at (maps_in o b) which
