-- What is true of the batch that tables hold: how long it is, and its maps.
use Rattle.std.proofs.Common.{◌≡◌, ℕ, ◌<◌, List, length, sym, ap, subst}
use Rattle.span.specs.declared.fields.Fields.{Fields}
use Rattle.span.specs.declared.owner.Owner.{Owner}
use Rattle.span.specs.declared.owner.Owner.TheVariants as at
use Rattle.span.specs.Tables.{Table, owner_maps}
use Rattle.batch_tables.specs.declared.limits.ChunkRow.{ChunkRow}
use Rattle.batch_tables.specs.declared.limits.Room.{Room}
use Rattle.batch_tables.specs.Batches.{Held, all_spans}
use Rattle.batch_tables.specs.Flat.{spans_of}
use Rattle.batch_tables.specs.Held.{held, Together, Stands}
use Rattle.batch_tables.specs.Reads.{maps_in}
use Rattle.batch_tables.proofs.Checked.{all_spans-long}
use Rattle.batch_tables.proofs.Edited.{Within}
use Rattle.batch_tables.proofs.Missing.{length-chunks}
use Rattle.batch_tables.proofs.Read.{owner_maps_of}

module _ {H O : Type 0} {cs : List (ChunkRow H)} {fs : List (Fields O)} {stride : ℕ} {room reserved : Room} {T : Table} (one : Together cs fs stride room reserved T) where
  abbrev is_held : Held H O
  is_held = held cs fs stride room T

  pub chunks-held : length is_held.batch ≡ length cs
  chunks-held = length-chunks cs T.chunks (spans_of fs T.spans)

  pub spans-held : length (all_spans is_held.batch) ≡ length fs
  spans-held = all_spans-long cs T.chunks fs T.spans one.adds

  pub maps-held : (o : Owner) → maps_in o is_held.batch ≡ owner_maps o T
  maps-held o = owner_maps_of cs fs T one.adds (ap (λ w. w.chunks) one.reach) (ap (λ w. w.spans) one.reach) o

  -- what a call asks of the batch, as it asks it of the tables
  module _ {h : Held H O} (is : is_held ≡ h) where
    pub chunk_free : length h.batch < h.room.chunks → length cs < room.chunks
    chunk_free lt = subst (λ n. n < room.chunks) chunks-held (subst (λ x. length x.batch < x.room.chunks) (sym is) lt)

    pub span_free : length (all_spans h.batch) < h.room.spans → length fs < room.spans
    span_free lt = subst (λ n. n < room.spans) spans-held (subst (λ x. length (all_spans x.batch) < x.room.spans) (sym is) lt)

    pub some_chunk : (p : ℕ) → p < length h.batch → p < length cs
    some_chunk p lt = subst (λ n. p < n) chunks-held (subst (λ x. p < length x.batch) (sym is) lt)

    pub some_span : (p : ℕ) → p < length (all_spans h.batch) → p < length fs
    some_span p lt = subst (λ n. p < n) spans-held (subst (λ x. p < length (all_spans x.batch)) (sym is) lt)

    pub standing : (o : Owner) → Stands o h.batch → Within o (length cs) (length fs)
    standing (at.Span p) lt = some_span p lt
    standing (at.Chunk p) lt = some_chunk p lt
