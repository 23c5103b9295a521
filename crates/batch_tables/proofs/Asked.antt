-- A question on one span of the batch is one on its row.
use Rattle.std.proofs.Common.{◌≡◌, ℕ, zero, suc, ◌<◌, List, [], ◌∷◌, length, get_or, Some, sym, ap, ◌∙◌, arith}
use Rattle.texts.specs.Stocks.{Texts}
use Rattle.vec_map.specs.Entries.{entry_at}
use Rattle.span.specs.declared.fields.Fields.{Fields}
use Rattle.span.specs.Model.{Maps}
use Rattle.span.specs.Readings.{maps_at}
use Rattle.span.specs.Views.{View, sight}
use Rattle.batch_tables.specs.declared.limits.ChunkRow.{ChunkRow}
use Rattle.batch_tables.specs.declared.query.Question.{Question}
use Rattle.batch_tables.specs.Batches.{Held, all_spans}
use Rattle.batch_tables.specs.Flat.{spans_of, chunks_of}
use Rattle.batch_tables.specs.Limits.{total}
use Rattle.batch_tables.specs.Queries.{asked_known, asked_of, query_batch}
use Rattle.batch_tables.proofs.Checked.{all_spans-of}
use Rattle.batch_tables.proofs.Edited.{length-spans}

pub span_entry : {O : Type 0} (fs : List (Fields O)) (rows : List Maps) (p : ℕ) (f : Fields O) → p < length fs → f ≡ get_or fs p f → entry_at (spans_of fs rows) p ≡ Some (record { fields = f; maps = maps_at rows p })
span_entry [] rows p f lt is = absurd (omega arith)
span_entry (x ∷ fs) [] zero f lt is = ap (λ y. Some (record { fields = y; maps = [] })) (sym is)
span_entry (x ∷ fs) (ms ∷ rows) zero f lt is = ap (λ y. Some (record { fields = y; maps = ms })) (sym is)
span_entry (x ∷ fs) [] (suc p) f lt is = span_entry fs [] p f (omega arith) is
span_entry (x ∷ fs) (ms ∷ rows) (suc p) f lt is = span_entry fs rows p f (omega arith) is

module _ {H O : Type 0} (v : View H O) (t : Texts) (q : Question) (h : Held H O) (cs : List (ChunkRow H)) (crows rows : List Maps) (fs : List (Fields O)) (is : h.batch ≡ chunks_of cs crows (spans_of fs rows)) (counts : total cs ≡ length fs) where
  pub asked_row : (p : ℕ) (f : Fields O) → p < length fs → f ≡ get_or fs p f → query_batch v t p q h ≡ asked_known t q (sight v t f rows p)
  asked_row p f lt read =
      ap (λ b. asked_of v t p q (entry_at (all_spans b) p)) is
      ∙ ap (λ ss. asked_of v t p q (entry_at ss p)) (all_spans-of cs crows (spans_of fs rows) (counts ∙ sym (length-spans fs rows)))
      ∙ ap (asked_of v t p q) (span_entry fs rows p f lt read)
