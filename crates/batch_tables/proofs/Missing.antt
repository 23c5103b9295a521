-- A call on an owner that is not there is refused for that.
use Rattle.std.proofs.Common.{◌≡◌, ℕ, suc, ◌≤◌, List, [], ◌∷◌, length, drop, sym, refl, ap, ◌∙◌, arith}
use Rattle.texts.specs.Outcomes.{carry}
use Rattle.texts.specs.Outcomes.Outcome.{refused}
use Rattle.texts.specs.Stocks.{Texts}
use Rattle.vec_map.proofs.Steps.{entry_missed}
use Rattle.map_table.specs.declared.table.edits.Edit.{Edit}
use Rattle.span.specs.declared.fields.Fields.{Fields}
use Rattle.span.specs.declared.owner.Owner.TheVariants as at
use Rattle.span.specs.declared.value.Value.{Value}
use Rattle.span.specs.Model.{Maps, Span}
use Rattle.span.specs.Views.{View}
use Rattle.batch_tables.specs.declared.fault.BatchFault.TheVariants as fault
use Rattle.batch_tables.specs.declared.limits.ChunkRow.{ChunkRow}
use Rattle.batch_tables.specs.declared.query.Question.{Question}
use Rattle.batch_tables.specs.Batches.{Held, with_batch, all_spans, edit_at, edit_batch}
use Rattle.batch_tables.specs.Queries.{asked_of, query_batch}
use Rattle.batch_tables.specs.Flat.{spans_of, chunks_of}
use Rattle.batch_tables.specs.Limits.{total}
use Rattle.batch_tables.proofs.Edited.{length-spans}
use Rattle.batch_tables.proofs.Flats.{span_place}
use Rattle.batch_tables.proofs.Places.{none_past}

pub length-chunks : {H O : Type 0} (cs : List (ChunkRow H)) (rows : List Maps) (ss : List (Span O)) → length (chunks_of cs rows ss) ≡ length cs
length-chunks [] rows ss = refl
length-chunks (c ∷ cs) [] ss = ap suc (length-chunks cs [] (drop c.count ss))
length-chunks (c ∷ cs) (ms ∷ rows) ss = ap suc (length-chunks cs rows (drop c.count ss))

module _ {H O : Type 0} (v : View H O) (t : Texts) (e : Edit Value) (h : Held H O) where
  module _ (cs : List (ChunkRow H)) (crows rows : List Maps) (fs : List (Fields O)) (is : h.batch ≡ chunks_of cs crows (spans_of fs rows)) where
    pub edit_no_span : (p : ℕ) → total cs ≡ length fs → length fs ≤ p → edit_batch v t e (at.Span p) h ≡ refused (fault.NoSpan p)
    edit_no_span p counts le =
        ap (λ b. carry (with_batch h) (edit_at v t h.stride e (at.Span p) b)) is
        ∙ ap (carry (with_batch h)) (span_place (fault.NoSpan p) _ cs crows (spans_of fs rows) p (counts ∙ sym (length-spans fs rows)) ∙ ap (carry (chunks_of cs crows)) (none_past (fault.NoSpan p) _ (spans_of fs rows) p (omega (arith, length-spans fs rows))))

    pub edit_no_chunk : (p : ℕ) → length cs ≤ p → edit_batch v t e (at.Chunk p) h ≡ refused (fault.NoChunk p)
    edit_no_chunk p le =
        ap (λ b. carry (with_batch h) (edit_at v t h.stride e (at.Chunk p) b)) is
        ∙ ap (carry (with_batch h)) (none_past (fault.NoChunk p) _ (chunks_of cs crows (spans_of fs rows)) p (omega (arith, length-chunks cs crows (spans_of fs rows))))

-- a question on a span that is not there
module _ {H O : Type 0} (v : View H O) (t : Texts) (q : Question) (h : Held H O) where
  pub query_no_span : (p : ℕ) → length (all_spans h.batch) ≤ p → query_batch v t p q h ≡ refused (fault.NoSpan p)
  query_no_span p le = ap (asked_of v t p q) (sym (entry_missed (all_spans h.batch) p le))
