-- One chunk more, and one span more, in flat tables and in the batch that they hold.
use Rattle.std.proofs.Common.{◌≡◌, ℕ, zero, suc, ◌+◌, ◌<◌, ◌≤◌, List, [], ◌∷◌, ◌++◌, length, get_or, take, drop, set, Result, sym, refl, ap, ◌∙◌, arith}
use Rattle.std.proofs.lemmas.List.{length-append, length-set, length-drop, take-append-le, drop-append-le, take_all}
use Rattle.std.proofs.lemmas.Bool.{cond-true, lt-ltb}
use Rattle.texts.specs.Outcomes.{Came, leaves}
use Rattle.span.specs.declared.fields.Fields.{Fields}
use Rattle.span.specs.declared.shape.Shape.{Shape}
use Rattle.span.specs.Model.{Maps, Span, Chunk, Batch}
use Rattle.span.specs.Tables as table
use Rattle.span.specs.Tables.{Table, shape_of, blank_maps, chunk_row_added, span_row_added}
use Rattle.span.specs.Views.{View}
use Rattle.span.specs.Views.Kind.{of_span, of_chunk}
use Rattle.batch_tables.specs.declared.limits.ChunkRow.{ChunkRow}
use Rattle.batch_tables.specs.declared.limits.Room.{Room}
use Rattle.batch_tables.specs.Batches.{with_batch, to_last}
use Rattle.batch_tables.specs.Flat.{spans_of, chunks_of}
use Rattle.batch_tables.specs.Held.{held, wanted_shape, Together}
use Rattle.batch_tables.specs.Limits.{total}
use Rattle.batch_tables.proofs.Edited.{length-spans}

-- counts
module _ {H : Type 0} where
  pub total-push : (cs : List (ChunkRow H)) (c : ChunkRow H) → total (cs ++ (c ∷ [])) ≡ total cs + c.count
  total-push [] c = omega arith
  total-push (d ∷ cs) c = omega (arith, total-push cs c)

  pub total-set : (cs : List (ChunkRow H)) (i : ℕ) (c d : ChunkRow H) → i < length cs → c.count ≡ (get_or cs i d).count + 1 → total (set cs i c) ≡ total cs + 1
  total-set [] i c d lt is = absurd (omega arith)
  total-set (x ∷ cs) zero c d lt is = omega arith
  total-set (x ∷ cs) (suc i) c d lt is = omega (arith, total-set cs i c d (omega arith) is)

  pub count-within : (cs : List (ChunkRow H)) (i : ℕ) (d : ChunkRow H) → i < length cs → (get_or cs i d).count ≤ total cs
  count-within [] i d lt = absurd (omega arith)
  count-within (x ∷ cs) zero d lt = omega arith
  count-within (x ∷ cs) (suc i) d lt = omega (arith, count-within cs i d (omega arith))

-- a span more
pub spans-push : {O : Type 0} (fs : List (Fields O)) (rows : List Maps) (f : Fields O) (ms : Maps) → length rows ≡ length fs → spans_of (fs ++ (f ∷ [])) (rows ++ (ms ∷ [])) ≡ spans_of fs rows ++ (record { fields = f; maps = ms } ∷ [])
spans-push [] [] f ms e = refl
spans-push [] (m ∷ rows) f ms e = absurd (omega arith)
spans-push (x ∷ fs) [] f ms e = absurd (omega arith)
spans-push (x ∷ fs) (m ∷ rows) f ms e = ap (λ ss. record { fields = x; maps = m } ∷ ss) (spans-push fs rows f ms (omega arith))

module _ {H O : Type 0} where
  -- a chunk that has no spans yet
  pub chunks-push : (cs : List (ChunkRow H)) (rows : List Maps) (ss : List (Span O)) (h : H) (ms : Maps) → length rows ≡ length cs → chunks_of (cs ++ (record { count = 0; head = h } ∷ [])) (rows ++ (ms ∷ [])) ss ≡ chunks_of cs rows ss ++ (record { head = h; maps = ms; spans = [] } ∷ [])
  chunks-push [] [] ss h ms e = refl
  chunks-push [] (m ∷ rows) ss h ms e = absurd (omega arith)
  chunks-push (c ∷ cs) [] ss h ms e = absurd (omega arith)
  chunks-push (c ∷ cs) (m ∷ rows) ss h ms e = ap (λ ds. record { head = c.head; maps = m; spans = take c.count ss } ∷ ds) (chunks-push cs rows (drop c.count ss) h ms (omega arith))

  -- the last chunk, with its one span more
  last-chunk : (h : H) (ms : Maps) (n m : ℕ) (ss : List (Span O)) (s : Span O) → n ≡ length ss → m ≡ n + 1 → ◌≡◌ {A = Chunk H O} (record { head = h; maps = ms; spans = take m (ss ++ (s ∷ [])) }) (record { head = h; maps = ms; spans = take n ss ++ (s ∷ []) })
  last-chunk h ms n m ss s is more =
      ap (λ xs. record { head = h; maps = ms; spans = xs }) (take_all m (ss ++ (s ∷ [])) (omega (arith, length-append ss (s ∷ [])))
      ∙ ap (λ xs. xs ++ (s ∷ [])) (sym (take_all n ss (omega arith))))

  -- an earlier chunk, and what follows it
  early_chunk : (h : H) (ms : Maps) (n : ℕ) (ss : List (Span O)) (s : Span O) (rest : List (Span O) → Batch H O) → n ≤ length ss → record { head = h; maps = ms; spans = take n (ss ++ (s ∷ [])) } ∷ rest (drop n (ss ++ (s ∷ []))) ≡ record { head = h; maps = ms; spans = take n ss } ∷ rest (drop n ss ++ (s ∷ []))
  early_chunk h ms n ss s rest le =
      ap (λ xs. record { head = h; maps = ms; spans = xs } ∷ rest (drop n (ss ++ (s ∷ [])))) (take-append-le n ss (s ∷ []) le)
      ∙ ap (λ xs. record { head = h; maps = ms; spans = take n ss } ∷ rest xs) (drop-append-le n ss (s ∷ []) le)

  pub chunks-last : (cs : List (ChunkRow H)) (i : ℕ) (rows : List Maps) (ss : List (Span O)) (s : Span O) (c d : ChunkRow H) → suc i ≡ length cs → total cs ≡ length ss → c.count ≡ (get_or cs i d).count + 1 → c.head ≡ (get_or cs i d).head → chunks_of (set cs i c) rows (ss ++ (s ∷ [])) ≡ to_last s (chunks_of cs rows ss)
  chunks-last [] i rows ss s c d last counts more same = absurd (omega arith)
  chunks-last (x ∷ []) zero [] ss s c d last counts more same = ap (λ y. y ∷ []) (ap (λ h. record { head = h; maps = []; spans = take c.count (ss ++ (s ∷ [])) }) same ∙ last-chunk x.head [] x.count c.count ss s (omega arith) more)
  chunks-last (x ∷ []) zero (ms ∷ rows) ss s c d last counts more same = ap (λ y. y ∷ []) (ap (λ h. record { head = h; maps = ms; spans = take c.count (ss ++ (s ∷ [])) }) same ∙ last-chunk x.head ms x.count c.count ss s (omega arith) more)
  chunks-last (x ∷ []) (suc i) rows ss s c d last counts more same = absurd (omega arith)
  chunks-last (x ∷ (y ∷ cs)) zero rows ss s c d last counts more same = absurd (omega arith)
  chunks-last (x ∷ (y ∷ cs)) (suc i) [] ss s c d last counts more same =
      early_chunk x.head [] x.count ss s (chunks_of (set (y ∷ cs) i c) []) (omega arith)
      ∙ ap (λ ds. record { head = x.head; maps = []; spans = take x.count ss } ∷ ds) (chunks-last (y ∷ cs) i [] (drop x.count ss) s c d (omega arith) (omega (arith, length-drop x.count ss)) more same)
  chunks-last (x ∷ (y ∷ cs)) (suc i) (ms ∷ []) ss s c d last counts more same =
      early_chunk x.head ms x.count ss s (chunks_of (set (y ∷ cs) i c) []) (omega arith)
      ∙ ap (λ ds. record { head = x.head; maps = ms; spans = take x.count ss } ∷ ds) (chunks-last (y ∷ cs) i [] (drop x.count ss) s c d (omega arith) (omega (arith, length-drop x.count ss)) more same)
  chunks-last (x ∷ (y ∷ cs)) (suc i) (ms ∷ (ns ∷ rows)) ss s c d last counts more same =
      early_chunk x.head ms x.count ss s (chunks_of (set (y ∷ cs) i c) (ns ∷ rows)) (omega arith)
      ∙ ap (λ ds. record { head = x.head; maps = ms; spans = take x.count ss } ∷ ds) (chunks-last (y ∷ cs) i (ns ∷ rows) (drop x.count ss) s c d (omega arith) (omega (arith, length-drop x.count ss)) more same)

-- a shape with one row more
abbrev chunk_more : Shape → Shape
chunk_more w = record { stride = w.stride; chunk_room = w.chunk_room; span_room = w.span_room; chunks = w.chunks + 1; spans = w.spans }

abbrev span_more : Shape → Shape
span_more w = record { stride = w.stride; chunk_room = w.chunk_room; span_room = w.span_room; chunks = w.chunks; spans = w.spans + 1 }

module _ {H O : Type 0} (v : View H O) {cs : List (ChunkRow H)} {fs : List (Fields O)} {stride : ℕ} {room reserved : Room} {T : Table} (T' : Table) (one : Together cs fs stride room reserved T) where
  module _ {r : Result (Unit {0}) _} (came : Came (chunk_row_added v T) T T' r) (lt : length cs < room.chunks) (h : H) where
    abbrev chunk_rows : List Maps
    chunk_rows = T.chunks ++ (blank_maps v of_chunk ∷ [])

    chunk_row_there : T' ≡ table.with_chunks T chunk_rows
    chunk_row_there = came.left ∙ ap (leaves T) (cond-true _ _ _ (lt-ltb (length T.chunks) T.chunk_room (omega (arith, ap (λ w. w.chunks) one.reach, ap (λ w. w.chunk_room) one.reach))))

    abbrev more_chunks : List (ChunkRow H)
    more_chunks = cs ++ (record { count = 0; head = h } ∷ [])

    pub chunk_reach : shape_of T' ≡ wanted_shape more_chunks fs stride room
    chunk_reach =
        ap shape_of chunk_row_there ∙ ap (λ n. record { stride = T.stride; chunk_room = T.chunk_room; span_room = T.span_room; chunks = n; spans = length T.spans }) (length-append T.chunks (blank_maps v of_chunk ∷ [])) ∙ ap chunk_more one.reach
        ∙ ap (λ n. record { stride = stride; chunk_room = room.chunks; span_room = room.spans; chunks = n; spans = length fs }) (sym (length-append cs (record { count = 0; head = h } ∷ [])))

    pub chunk_added : held more_chunks fs stride room T' ≡ with_batch (held cs fs stride room T) ((held cs fs stride room T).batch ++ (record { head = h; maps = blank_maps v of_chunk; spans = [] } ∷ []))
    chunk_added =
        ap (λ t. held more_chunks fs stride room t) chunk_row_there
        ∙ ap (λ b. record { batch = b; stride = stride; room = room }) (chunks-push cs T.chunks (spans_of fs T.spans) h (blank_maps v of_chunk) (ap (λ w. w.chunks) one.reach))

  module _ {r : Result (Unit {0}) _} (came : Came (span_row_added v T) T T' r) (lt : length fs < room.spans) (f : Fields O) (i : ℕ) (c d : ChunkRow H) where
    abbrev span_rows : List Maps
    span_rows = T.spans ++ (blank_maps v of_span ∷ [])

    span_row_there : T' ≡ table.with_spans T span_rows
    span_row_there = came.left ∙ ap (leaves T) (cond-true _ _ _ (lt-ltb (length T.spans) T.span_room (omega (arith, ap (λ w. w.spans) one.reach, ap (λ w. w.span_room) one.reach))))

    abbrev more_spans : List (Fields O)
    more_spans = fs ++ (f ∷ [])

    pub span_reach : shape_of T' ≡ wanted_shape (set cs i c) more_spans stride room
    span_reach =
        ap shape_of span_row_there ∙ ap (λ n. record { stride = T.stride; chunk_room = T.chunk_room; span_room = T.span_room; chunks = length T.chunks; spans = n }) (length-append T.spans (blank_maps v of_span ∷ [])) ∙ ap span_more one.reach
        ∙ ap (λ n. record { stride = stride; chunk_room = room.chunks; span_room = room.spans; chunks = length cs; spans = n }) (sym (length-append fs (f ∷ [])))
        ∙ ap (λ n. record { stride = stride; chunk_room = room.chunks; span_room = room.spans; chunks = n; spans = length more_spans }) (sym (length-set cs i c))

    pub span_added : suc i ≡ length cs → c.count ≡ (get_or cs i d).count + 1 → c.head ≡ (get_or cs i d).head
        → held (set cs i c) more_spans stride room T' ≡ with_batch (held cs fs stride room T) (to_last (record { fields = f; maps = blank_maps v of_span }) (held cs fs stride room T).batch)
    span_added last more same =
        let ms = blank_maps v of_span in
        ap (λ t. held (set cs i c) more_spans stride room t) span_row_there
        ∙ ap (λ ss. record { batch = chunks_of (set cs i c) T.chunks ss; stride = stride; room = room }) (spans-push fs T.spans f ms (ap (λ w. w.spans) one.reach))
        ∙ ap (λ b. record { batch = b; stride = stride; room = room })
        (chunks-last cs i T.chunks (spans_of fs T.spans) (record { fields = f; maps = ms }) c d last (one.adds ∙ sym (length-spans fs T.spans)) more same)
