-- A batch, and what each call makes of it: what it leaves and answers, or on what ground it is refused. Grounds are tried in the order of their numbers.
use Rattle.std.specs.Prelude.{ℕ, ◌-◌, cond, List, [], ◌∷◌, ◌++◌, length, Ok, Err, Result, nat_lt}
use Rattle.texts.specs.declared.stock.Text.{Text}
use Rattle.texts.specs.Outcomes.{Outcome, carry, at_place}
use Rattle.texts.specs.Outcomes.Outcome.{taken, refused}
use Rattle.texts.specs.Stocks.{Texts, same_text}
use Rattle.vec_map.specs.declared.fault.MapFault.{MapFault}
use Rattle.vec_map.specs.declared.fault.MapFault.TheVariants.{Stock}
use Rattle.map_table.specs.declared.table.edits.Edit.{Edit}
use Rattle.map_table.specs.declared.table.edits.Edit.TheVariants.{Insert, Remove, Dedup, Claim}
use Rattle.span.specs.declared.fields.Fields.{Fields}
use Rattle.span.specs.declared.owner.Owner.{Owner}
use Rattle.span.specs.declared.owner.Owner.TheVariants as at
use Rattle.span.specs.declared.value.Value.{Value}
use Rattle.span.specs.declared.value.Value.TheVariants as of
use Rattle.span.specs.Edits.{edit_maps}
use Rattle.span.specs.Model.{Maps, Span, Chunk, Batch}
use Rattle.span.specs.Tables.{blank_maps, if_all_known}
use Rattle.span.specs.Views.{Kind, View}
use Rattle.span.specs.Views.Kind.{of_span, of_chunk}
use Rattle.batch_tables.specs.declared.fault.BatchFault.{BatchFault}
use Rattle.batch_tables.specs.declared.fault.BatchFault.TheVariants as fault
use Rattle.batch_tables.specs.declared.limits.Room.{Room}

-- a batch, the places of each of its maps, and for how many chunks and spans there is room
pub record Held (H O : Type 0) : Type 0 where
  pub batch : Batch H O
  pub stride : ℕ
  pub room : Room

abbrev pub with_batch : {H O : Type 0} → Held H O → Batch H O → Held H O
with_batch h b = record { batch = b; stride = h.stride; room = h.room }

-- an outcome, or an answer, with its refusal told as another
abbrev pub told_as : {X R F G : Type 0} → (F → G) → Outcome X R F → Outcome X R G
told_as g (taken x a) = taken x a
told_as g (refused f) = refused (g f)

abbrev pub retold : {R F G : Type 0} → (F → G) → Result R F → Result R G
retold g (Ok a) = Ok a
retold g (Err e) = Err (g e)

-- the outcome of a call that leaves x where it answers that it is taken
abbrev pub outcome_of : {X R F : Type 0} → Result R F → X → Outcome X R F
outcome_of (Ok a) x = taken x a
outcome_of (Err f) x = refused f

-- a call that goes on only where another is taken
abbrev pub after : {X Y R S F : Type 0} → Outcome Y S F → Outcome X R F → Outcome X R F
after (taken y s) o = o
after (refused f) o = refused f

module _ {O : Type 0} where
  abbrev pub with_maps : Span O → Maps → Span O
  with_maps s ms = record { fields = s.fields; maps = ms }

module _ {H O : Type 0} where
  abbrev pub with_spans : Chunk H O → List (Span O) → Chunk H O
  with_spans c ss = record { head = c.head; maps = c.maps; spans = ss }

  abbrev pub with_own_maps : Chunk H O → Maps → Chunk H O
  with_own_maps c ms = record { head = c.head; maps = ms; spans = c.spans }

  -- the spans of all chunks, in their order
  abbrev pub all_spans : Batch H O → List (Span O)
  all_spans [] = []
  all_spans (c ∷ cs) = c.spans ++ all_spans cs

  -- a call on the span at a place, which counts over the whole batch
  abbrev pub at_span : {R F : Type 0} → F → (Span O → Outcome (Span O) R F) → Batch H O → ℕ → Outcome (Batch H O) R F
  at_span none call [] p = refused none
  at_span none call (c ∷ cs) p =
      cond (nat_lt p (length c.spans)) (carry (λ ss. with_spans c ss ∷ cs) (at_place none call c.spans p)) (carry (λ ds. c ∷ ds) (at_span none call cs (p - length c.spans)))

  -- the batch with one span more at the end of its last chunk
  abbrev pub to_last : Span O → Batch H O → Batch H O
  to_last s [] = []
  to_last s (c ∷ []) = with_spans c (c.spans ++ (s ∷ [])) ∷ []
  to_last s (c ∷ (d ∷ ds)) = c ∷ to_last s (d ∷ ds)

  -- a call that wants a last chunk
  abbrev pub if_any : {X R : Type 0} → Batch H O → Outcome X R BatchFault → Outcome X R BatchFault
  if_any [] o = refused (fault.NoChunk 0)
  if_any (c ∷ cs) o = o

-- the texts that an edit names, the key first
abbrev pub value_texts : Value → List Text
value_texts (of.Text t) = t ∷ []
value_texts (of.Float bits) = []
value_texts (of.Int n) = []
value_texts (of.Bool b) = []
value_texts (of.Bytes n) = []
value_texts (of.KeyValue n) = []
value_texts (of.List n) = []

abbrev pub edit_texts : Edit Value → List Text
edit_texts (Insert k v) = k ∷ value_texts v
edit_texts (Remove k) = k ∷ []
edit_texts Dedup = []
edit_texts Claim = []

module _ {H O : Type 0} (v : View H O) (t : Texts) where
  -- an edit of the maps of one owner, which wants its texts known
  abbrev pub edit_known : ℕ → Kind → Edit Value → Maps → Outcome Maps (Unit {0}) MapFault
  edit_known stride kind e ms = after (told_as Stock (if_all_known t (edit_texts e))) (edit_maps (same_text t) stride (v.home kind) e ms)

  -- an edit of the maps of the span or chunk at a place
  abbrev pub edit_at : ℕ → Edit Value → Owner → Batch H O → Outcome (Batch H O) (Unit {0}) BatchFault
  edit_at stride e (at.Span p) b = at_span (fault.NoSpan p) (λ s. carry (with_maps s) (told_as (fault.Map p) (edit_known stride of_span e s.maps))) b p
  edit_at stride e (at.Chunk p) b = at_place (fault.NoChunk p) (λ c. carry (with_own_maps c) (told_as (fault.Map p) (edit_known stride of_chunk e c.maps))) b p

  abbrev pub edit_batch : Edit Value → Owner → Held H O → Outcome (Held H O) (Unit {0}) BatchFault
  edit_batch e o h = carry (with_batch h) (edit_at h.stride e o h.batch)

  -- one chunk more, with no spans yet, wants room for it and its texts known
  abbrev pub add_chunk : H → Held H O → Outcome (Held H O) (Unit {0}) BatchFault
  add_chunk head h =
      cond (nat_lt (length h.batch) h.room.chunks)
      (after (told_as fault.Stock (if_all_known t (v.chunk_texts head))) (taken (with_batch h (h.batch ++ (record { head = head; maps = blank_maps v of_chunk; spans = [] } ∷ []))) tt))
      (refused fault.Full)

  -- one span more, in the last chunk, wants a chunk, room for it and its texts known
  abbrev pub add_span : Fields O → Held H O → Outcome (Held H O) (Unit {0}) BatchFault
  add_span f h =
      if_any h.batch
      (cond (nat_lt (length (all_spans h.batch)) h.room.spans)
      (after (told_as fault.Stock (if_all_known t (v.span_texts f))) (taken (with_batch h (to_last (record { fields = f; maps = blank_maps v of_span }) h.batch)) tt))
      (refused fault.Full))
