-- Tables handed in: what they hold, and on what ground they are refused.
use Rattle.std.specs.Prelude.{◌≡◌, ℕ, Bool, cond, ◌&&◌, Some, None, Ok, Err, vec_items, vec_len, vec_capacity, Option, Result, ◌==◌, nat_le}
use Rattle.map_table.specs.Rows.{stride_fits}
use Rattle.span.specs.declared.shape.Shape.{Shape}
use Rattle.span.specs.Tables.{Table, shape_of}
use Rattle.batch_tables.specs.declared.fault.BatchFault.{BatchFault}
use Rattle.batch_tables.specs.declared.fault.BatchFault.TheVariants as fault
use Rattle.batch_tables.specs.declared.limits.Room.{Room}
use Rattle.batch_tables.specs.declared.parts.Parts.{Parts}
use Rattle.batch_tables.specs.Batches.{Held}
use Rattle.batch_tables.specs.Held.{held}
use Rattle.batch_tables.specs.Limits.{most_chunks, most_spans, total}

abbrev pub same_shape : Shape → Shape → Bool
same_shape a b = a.stride == b.stride && (a.chunk_room == b.chunk_room && (a.span_room == b.span_room && (a.chunks == b.chunks && a.spans == b.spans)))

-- a room within another
abbrev pub within_room : ℕ → ℕ → Room → Bool
within_room chunks spans r = nat_le chunks r.chunks && nat_le spans r.spans

abbrev pub limits : Room
limits = record { chunks = most_chunks; spans = most_spans }

module _ {E H O M : Type 0} (table : M → Table) (p : Parts E H O M) where
  abbrev pub parts_shape : Shape
  parts_shape = record { stride = p.stride; chunk_room = p.room.chunks; span_room = p.room.spans; chunks = vec_len p.chunks; spans = vec_len p.spans }

  -- the batch that the parts are
  abbrev pub parts_held : Held H O
  parts_held = held (vec_items p.chunks) (vec_items p.spans) p.stride p.room (table p.maps)

  -- the counts add up, the maps go as far, nothing passes the room, and the room is reserved
  abbrev pub whole : Bool
  whole = total (vec_items p.chunks) == vec_len p.spans && (same_shape (shape_of (table p.maps)) parts_shape && (within_room (vec_len p.chunks) (vec_len p.spans) p.room && within_room p.room.chunks p.room.spans (record { chunks = vec_capacity p.chunks; spans = vec_capacity p.spans })))

  -- on what ground parts are refused, if on any
  abbrev pub parts_ground : Option BatchFault
  parts_ground = cond whole (cond (stride_fits p.stride) (cond (within_room p.room.chunks p.room.spans limits) None (Some fault.Full)) (Some fault.Stride)) (Some fault.Broken)

  -- parts were handed in, and r came of it
  abbrev pub Joined : Result (Held H O) BatchFault → Type 0
  Joined (Ok b) = (parts_ground ≡ None) × (b ≡ parts_held)
  Joined (Err f) = parts_ground ≡ Some f
