-- A call on one row of flat tables is a call on one span or chunk of the batch that they hold.
use Rattle.std.proofs.Common.{◌≡◌, ℕ, zero, suc, ◌-◌, ◌<◌, ◌≤◌, Bool, true, false, ltb, List, [], ◌∷◌, ◌++◌, length, take, drop, sym, refl, ap, ◌∙◌, arith}
use Rattle.std.proofs.lemmas.List.{take_at, drop_at, length-take-le, length-drop, take-append-drop}
use Rattle.std.proofs.lemmas.Bool.{ltb-true, ltb-false, cond-true, cond-false}
use Rattle.texts.specs.Outcomes.{Outcome, carry, at_place}
use Rattle.texts.specs.Outcomes.Outcome.{taken, refused}
use Rattle.span.specs.declared.fields.Fields.{Fields}
use Rattle.span.specs.Model.{Maps, Span, Chunk, Batch}
use Rattle.batch_tables.specs.declared.limits.ChunkRow.{ChunkRow}
use Rattle.batch_tables.specs.Batches.{told_as, at_span, with_maps, with_own_maps}
use Rattle.batch_tables.specs.Flat.{spans_of, chunks_of}
use Rattle.batch_tables.specs.Limits.{total}
use Rattle.span.proofs.Carried.{carry-carry}
use Rattle.batch_tables.proofs.Places.{at_front, at_back, carry_same}

-- a call on the maps of one span
module _ {O R F G : Type 0} (none : G) (miss : F) (g : F → G) (f : Maps → Outcome Maps R F) where
  abbrev pub on_span : Span O → Outcome (Span O) R G
  on_span s = carry (with_maps s) (told_as g (f s.maps))

  span_first : (x : Fields O) (fs : List (Fields O)) (ms : Maps) (rows : List Maps) (o : Outcome Maps R F) → carry (λ s. s ∷ spans_of fs rows) (carry (with_maps (record { fields = x; maps = ms })) (told_as g o)) ≡ carry (spans_of (x ∷ fs)) (told_as g (carry (λ m. m ∷ rows) o))
  span_first x fs ms rows (taken m a) = refl
  span_first x fs ms rows (refused e) = refl

  span_next : (x : Fields O) (fs : List (Fields O)) (ms : Maps) (o : Outcome (List Maps) R F) → carry (λ ss. record { fields = x; maps = ms } ∷ ss) (carry (spans_of fs) (told_as g o)) ≡ carry (spans_of (x ∷ fs)) (told_as g (carry (λ rows. ms ∷ rows) o))
  span_next x fs ms (taken m a) = refl
  span_next x fs ms (refused e) = refl

  pub span_row : (fs : List (Fields O)) (rows : List Maps) (p : ℕ) → length rows ≡ length fs → p < length rows → at_place none on_span (spans_of fs rows) p ≡ carry (spans_of fs) (told_as g (at_place miss f rows p))
  span_row [] [] p e lt = absurd (omega arith)
  span_row [] (ms ∷ rows) p e lt = absurd (omega arith)
  span_row (x ∷ fs) [] p e lt = absurd (omega arith)
  span_row (x ∷ fs) (ms ∷ rows) zero e lt = span_first x fs ms rows (f ms)
  span_row (x ∷ fs) (ms ∷ rows) (suc p) e lt = ap (carry (λ ss. record { fields = x; maps = ms } ∷ ss)) (span_row fs rows p (omega arith) (omega arith)) ∙ span_next x fs ms (at_place miss f rows p)

-- a call on the maps of one chunk
module _ {H O R F G : Type 0} (none : G) (miss : F) (g : F → G) (f : Maps → Outcome Maps R F) where
  abbrev pub on_chunk : Chunk H O → Outcome (Chunk H O) R G
  on_chunk c = carry (with_own_maps c) (told_as g (f c.maps))

  chunk_first : (c : ChunkRow H) (cs : List (ChunkRow H)) (ms : Maps) (rows : List Maps) (ss : List (Span O)) (o : Outcome Maps R F) → carry (λ d. d ∷ chunks_of cs rows (drop c.count ss)) (carry (with_own_maps (record { head = c.head; maps = ms; spans = take c.count ss })) (told_as g o)) ≡ carry (λ rs. chunks_of (c ∷ cs) rs ss) (told_as g (carry (λ m. m ∷ rows) o))
  chunk_first c cs ms rows ss (taken m a) = refl
  chunk_first c cs ms rows ss (refused e) = refl

  chunk_next : (c : ChunkRow H) (cs : List (ChunkRow H)) (ms : Maps) (ss : List (Span O)) (o : Outcome (List Maps) R F) → carry (λ ds. record { head = c.head; maps = ms; spans = take c.count ss } ∷ ds) (carry (λ rs. chunks_of cs rs (drop c.count ss)) (told_as g o)) ≡ carry (λ rs. chunks_of (c ∷ cs) rs ss) (told_as g (carry (λ rs. ms ∷ rs) o))
  chunk_next c cs ms ss (taken m a) = refl
  chunk_next c cs ms ss (refused e) = refl

  pub chunk_row : (cs : List (ChunkRow H)) (rows : List Maps) (ss : List (Span O)) (p : ℕ) → length rows ≡ length cs → p < length rows → at_place none on_chunk (chunks_of cs rows ss) p ≡ carry (λ rs. chunks_of cs rs ss) (told_as g (at_place miss f rows p))
  chunk_row [] [] ss p e lt = absurd (omega arith)
  chunk_row [] (ms ∷ rows) ss p e lt = absurd (omega arith)
  chunk_row (c ∷ cs) [] ss p e lt = absurd (omega arith)
  chunk_row (c ∷ cs) (ms ∷ rows) ss zero e lt = chunk_first c cs ms rows ss (f ms)
  chunk_row (c ∷ cs) (ms ∷ rows) ss (suc p) e lt =
      ap (carry (λ ds. record { head = c.head; maps = ms; spans = take c.count ss } ∷ ds)) (chunk_row cs rows (drop c.count ss) p (omega arith) (omega arith)) ∙ chunk_next c cs ms ss (at_place miss f rows p)

-- a call on one span of the batch is one on the spans in their order
module _ {H O R F : Type 0} (none : F) (call : Span O → Outcome (Span O) R F) where
  -- a chunk of the first n spans, and what follows it
  module _ (h : H) (ms : Maps) (n : ℕ) (rest : List (Span O) → Batch H O) where
    abbrev cut : List (Span O) → Batch H O
    cut ss = record { head = h; maps = ms; spans = take n ss } ∷ rest (drop n ss)

    module _ (ss : List (Span O)) (p : ℕ) (le : n ≤ length ss) where
      long : length (take n ss) ≡ n
      long = length-take-le n ss le

      whole : at_place none call (take n ss ++ drop n ss) p ≡ at_place none call ss p
      whole = ap (λ xs. at_place none call xs p) (take-append-drop n ss)

      inside : p < n → carry (λ xs. record { head = h; maps = ms; spans = xs } ∷ rest (drop n ss)) (at_place none call (take n ss) p) ≡ carry cut (at_place none call ss p)
      inside lt =
          carry_same none call _ (λ xs. cut (xs ++ drop n ss)) (take n ss) p
          (λ zs l. sym (ap (λ xs. record { head = h; maps = ms; spans = xs } ∷ rest (drop n (zs ++ drop n ss))) (take_at zs (drop n ss) n (l ∙ long)) ∙ ap (λ xs. record { head = h; maps = ms; spans = zs } ∷ rest xs) (drop_at zs (drop n ss) n (l ∙ long))))
          ∙ sym (carry-carry cut (λ xs. xs ++ drop n ss) (at_place none call (take n ss) p))
          ∙ ap (carry cut) (sym (at_front none call (take n ss) (drop n ss) p (omega (arith, long))) ∙ whole)

      beyond : n ≤ p → carry (λ ds. record { head = h; maps = ms; spans = take n ss } ∷ ds) (carry rest (at_place none call (drop n ss) (p - n))) ≡ carry cut (at_place none call ss p)
      beyond ge =
          carry-carry (λ ds. record { head = h; maps = ms; spans = take n ss } ∷ ds) rest (at_place none call (drop n ss) (p - n))
          ∙ carry_same none call _ (λ xs. cut (take n ss ++ xs)) (drop n ss) (p - n)
          (λ zs l. sym (ap (λ xs. record { head = h; maps = ms; spans = xs } ∷ rest (drop n (take n ss ++ zs))) (take_at (take n ss) zs n long) ∙ ap (λ xs. record { head = h; maps = ms; spans = take n ss } ∷ rest xs) (drop_at (take n ss) zs n long)))
          ∙ sym (carry-carry cut (λ xs. take n ss ++ xs) (at_place none call (drop n ss) (p - n)))
          ∙ ap (λ m. carry cut (carry (λ xs. take n ss ++ xs) (at_place none call (drop n ss) (p - m)))) (sym long)
          ∙ ap (carry cut) (sym (at_back none call (take n ss) (drop n ss) p (omega (arith, long))) ∙ whole)

      which : (b : Bool) → ltb p (length (take n ss)) ≡ b → at_span none call (rest (drop n ss)) (p - n) ≡ carry rest (at_place none call (drop n ss) (p - n)) → at_span none call (cut ss) p ≡ carry cut (at_place none call ss p)
      which true e deeper = cond-true _ _ _ e ∙ inside (let lt : p < length (take n ss) = ltb-true p (length (take n ss)) e in omega (arith, long))
      which false e deeper =
          cond-false _ _ _ e ∙ ap (λ m. carry (λ ds. record { head = h; maps = ms; spans = take n ss } ∷ ds) (at_span none call (rest (drop n ss)) (p - m))) long
          ∙ ap (carry (λ ds. record { head = h; maps = ms; spans = take n ss } ∷ ds)) deeper ∙ beyond (let ge : length (take n ss) ≤ p = ltb-false p (length (take n ss)) e in omega (arith, long))

      pub span_in : at_span none call (rest (drop n ss)) (p - n) ≡ carry rest (at_place none call (drop n ss) (p - n)) → at_span none call (cut ss) p ≡ carry cut (at_place none call ss p)
      span_in = which (ltb p (length (take n ss))) refl

  pub span_place : (cs : List (ChunkRow H)) (rows : List Maps) (ss : List (Span O)) (p : ℕ) → total cs ≡ length ss → at_span none call (chunks_of cs rows ss) p ≡ carry (chunks_of cs rows) (at_place none call ss p)
  span_place [] rows [] p e = refl
  span_place [] rows (s ∷ ss) p e = absurd (omega arith)
  span_place (c ∷ cs) [] ss p e = span_in c.head [] c.count (chunks_of cs []) ss p (omega arith) (span_place cs [] (drop c.count ss) (p - c.count) (omega (arith, length-drop c.count ss)))
  span_place (c ∷ cs) (ms ∷ rows) ss p e = span_in c.head ms c.count (chunks_of cs rows) ss p (omega arith) (span_place cs rows (drop c.count ss) (p - c.count) (omega (arith, length-drop c.count ss)))
