-- The batch that tables hold, and what is true of the tables of every batch.
use Rattle.std.specs.Prelude.{◌≡◌, ℕ, ◌<◌, ◌≤◌, min, true, false, List, [], length, Ok, Err, Result}
use Rattle.texts.specs.declared.refusal.Unmade.{Unmade}
use Rattle.texts.specs.declared.refusal.Unmade.TheVariants.{Refused, Memory}
use Rattle.map_table.specs.Rows.{stride_fits}
use Rattle.span.specs.declared.fields.Fields.{Fields}
use Rattle.span.specs.declared.owner.Owner.{Owner}
use Rattle.span.specs.declared.owner.Owner.TheVariants as at
use Rattle.span.specs.declared.shape.Shape.{Shape}
use Rattle.span.specs.Model.{Batch}
use Rattle.span.specs.Tables.{Table, shape_of}
use Rattle.batch_tables.specs.declared.fault.BatchFault.{BatchFault}
use Rattle.batch_tables.specs.declared.fault.BatchFault.TheVariants.{Stride}
use Rattle.batch_tables.specs.declared.limits.ChunkRow.{ChunkRow}
use Rattle.batch_tables.specs.declared.limits.Room.{Room}
use Rattle.batch_tables.specs.Limits.{most_chunks, most_spans, total}
use Rattle.batch_tables.specs.Batches.{Held, all_spans}
use Rattle.batch_tables.specs.Flat.{spans_of, chunks_of}

module _ {H O : Type 0} (chunks : List (ChunkRow H)) (spans : List (Fields O)) (stride : ℕ) (room : Room) where
  abbrev pub held : Table → Held H O
  held T = record { batch = chunks_of chunks T.chunks (spans_of spans T.spans); stride = stride; room = room }

  -- how far the maps must go
  abbrev pub wanted_shape : Shape
  wanted_shape = record { stride = stride; chunk_room = room.chunks; span_room = room.spans; chunks = length chunks; spans = length spans }

  -- Tables hold together: the counts add up, the maps go as far as chunks and spans do, nothing passes the room, the room is within the limits, and the memory for it is reserved.
  pub record Together (reserved : Room) (T : Table) : Type 0 where
    pub adds : total chunks ≡ length spans
    pub reach : shape_of T ≡ wanted_shape
    pub chunks_within : length chunks ≤ room.chunks
    pub spans_within : length spans ≤ room.spans
    pub few_chunks : room.chunks ≤ most_chunks
    pub few_spans : room.spans ≤ most_spans
    pub chunks_reserved : room.chunks ≤ reserved.chunks
    pub spans_reserved : room.spans ≤ reserved.spans

-- the owner is there
abbrev pub Stands : {H O : Type 0} → Owner → Batch H O → Type 0
Stands (at.Span p) b = p < length (all_spans b)
Stands (at.Chunk p) b = p < length b

-- the room that is taken of the room that is asked for
abbrev pub room_within : Room → Room
room_within r = record { chunks = min r.chunks most_chunks; spans = min r.spans most_spans }

-- a batch begins empty; it is refused exactly for a stride that does not fit, and else there may be no memory
abbrev pub Begun : {H O : Type 0} → ℕ → Room → Result (Held H O) (Unmade BatchFault) → Type 0
Begun stride room (Ok b) = (stride_fits stride ≡ true) × (b ≡ record { batch = []; stride = stride; room = room_within room })
Begun stride room (Err (Refused f)) = (stride_fits stride ≡ false) × (f ≡ Stride)
Begun stride room (Err Memory) = stride_fits stride ≡ true
