-- What is read of flat tables is what is read of the batch.
use Rattle.std.proofs.Common.{◌≡◌, Bor, Option, ℕ, zero, suc, List, [], ◌∷◌, length, drop, Some, None, unwrap_or, sym, refl, ap, ◌∙◌, arith}
use Rattle.std.specs.Option.{option_map, option_copied}
use Rattle.std.specs.Slice.{IsItemAt}
use Rattle.std.proofs.lemmas.Option.{slice_get_past, slice_get_read}
use Rattle.std.proofs.lemmas.List.{length-take-le, length-drop}
use Rattle.std.specs.Prelude.{slice_get}
use Rattle.vec_map.specs.Entries.{entry_at}
use Rattle.span.specs.declared.fields.Fields.{Fields}
use Rattle.span.specs.declared.owner.Owner.{Owner}
use Rattle.span.specs.declared.owner.Owner.TheVariants as at
use Rattle.span.specs.Model.{Maps, Span, Batch}
use Rattle.span.specs.Readings.{maps_at}
use Rattle.span.specs.Tables.{Table, owner_maps}
use Rattle.batch_tables.specs.declared.limits.ChunkRow.{ChunkRow}
use Rattle.batch_tables.specs.Batches.{all_spans}
use Rattle.batch_tables.specs.Flat.{spans_of, chunks_of}
use Rattle.batch_tables.specs.Limits.{total}
use Rattle.batch_tables.specs.Reads.{chunk_at, fields_at, maps_in}
use Rattle.batch_tables.proofs.Checked.{all_spans-of}
use Rattle.batch_tables.proofs.Edited.{length-spans}

-- the element that a slice lends at a place, copied
pub got_at : {X : Type 0} (xs : List X) (i : ℕ) (r : Option (Bor X)) → IsItemAt xs i r → option_copied r ≡ slice_get xs i
got_at xs i None p = sym (slice_get_past xs i p.3)
got_at xs i (Some x) p = sym (slice_get_read xs (length xs) i x.now refl p.3.0 p.1)

module _ {H O : Type 0} where
  pub chunk_read : (cs : List (ChunkRow H)) (rows : List Maps) (ss : List (Span O)) (i : ℕ) → total cs ≡ length ss → slice_get cs i ≡ chunk_at (chunks_of cs rows ss) i
  chunk_read [] rows ss i e = refl
  chunk_read (x ∷ cs) [] ss zero e = ap (λ n. Some (record { count = n; head = x.head })) (sym (length-take-le x.count ss (omega arith)))
  chunk_read (x ∷ cs) (ms ∷ rows) ss zero e = ap (λ n. Some (record { count = n; head = x.head })) (sym (length-take-le x.count ss (omega arith)))
  chunk_read (x ∷ cs) [] ss (suc i) e = chunk_read cs [] (drop x.count ss) i (omega (arith, length-drop x.count ss))
  chunk_read (x ∷ cs) (ms ∷ rows) ss (suc i) e = chunk_read cs rows (drop x.count ss) i (omega (arith, length-drop x.count ss))

  chunk_maps : (cs : List (ChunkRow H)) (rows : List Maps) (ss : List (Span O)) (i : ℕ) → length rows ≡ length cs → maps_in (at.Chunk i) (chunks_of cs rows ss) ≡ maps_at rows i
  chunk_maps [] [] ss i e = refl
  chunk_maps [] (ms ∷ rows) ss i e = absurd (omega arith)
  chunk_maps (x ∷ cs) [] ss i e = absurd (omega arith)
  chunk_maps (x ∷ cs) (ms ∷ rows) ss zero e = refl
  chunk_maps (x ∷ cs) (ms ∷ rows) ss (suc i) e = chunk_maps cs rows (drop x.count ss) i (omega arith)

span_maps : {O : Type 0} (fs : List (Fields O)) (rows : List Maps) (p : ℕ) → length rows ≡ length fs → unwrap_or (option_map (λ s. s.maps) (entry_at (spans_of fs rows) p)) [] ≡ maps_at rows p
span_maps [] [] p e = refl
span_maps [] (ms ∷ rows) p e = absurd (omega arith)
span_maps (x ∷ fs) [] p e = absurd (omega arith)
span_maps (x ∷ fs) (ms ∷ rows) zero e = refl
span_maps (x ∷ fs) (ms ∷ rows) (suc p) e = span_maps fs rows p (omega arith)

span_fields : {O : Type 0} (fs : List (Fields O)) (rows : List Maps) (p : ℕ) → slice_get fs p ≡ option_map (λ s. s.fields) (slice_get (spans_of fs rows) p)
span_fields [] rows p = refl
span_fields (x ∷ fs) [] zero = refl
span_fields (x ∷ fs) (ms ∷ rows) zero = refl
span_fields (x ∷ fs) [] (suc p) = span_fields fs [] p
span_fields (x ∷ fs) (ms ∷ rows) (suc p) = span_fields fs rows p

-- what is read of a span
module _ {H O : Type 0} (cs : List (ChunkRow H)) (crows : List Maps) (fs : List (Fields O)) (rows : List Maps) (counts : total cs ≡ length fs) where
  abbrev pub flat : Batch H O
  flat = chunks_of cs crows (spans_of fs rows)

  pub flat_spans : all_spans flat ≡ spans_of fs rows
  flat_spans = all_spans-of cs crows (spans_of fs rows) (counts ∙ sym (length-spans fs rows))

  pub fields_read : (p : ℕ) → slice_get fs p ≡ fields_at flat p
  fields_read p = span_fields fs rows p ∙ sym (ap (λ ss. option_map (λ s. s.fields) (entry_at ss p)) flat_spans)

-- the maps of an owner; one that is not there has none
pub owner_maps_of : {H O : Type 0} (cs : List (ChunkRow H)) (fs : List (Fields O)) (T : Table) → total cs ≡ length fs → length T.chunks ≡ length cs → length T.spans ≡ length fs → (o : Owner) → maps_in {H = H} {O = O} o (chunks_of cs T.chunks (spans_of fs T.spans)) ≡ owner_maps o T
owner_maps_of cs fs T counts m n (at.Span p) = ap (λ ss. unwrap_or (option_map (λ s. s.maps) (entry_at ss p)) []) (flat_spans cs T.chunks fs T.spans counts) ∙ span_maps fs T.spans p n
owner_maps_of cs fs T counts m n (at.Chunk p) = chunk_maps cs T.chunks (spans_of fs T.spans) p m
