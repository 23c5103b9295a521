-- When a chunk or a span can be added, and what refuses it.
use Rattle.std.proofs.Common.{◌≡◌, ℕ, ◌<◌, ◌≤◌, cond, ltb, List, [], ◌∷◌, ◌++◌, length, take, drop, IfOk, Ok, Err, Result, sym, refl, ap, ◌∙◌, arith}
use Rattle.std.proofs.lemmas.List.{length-drop, take-append-drop}
use Rattle.std.proofs.lemmas.Bool.{lt-ltb, le-ltb}
use Rattle.texts.specs.declared.stock.StockFault.{StockFault}
use Rattle.texts.specs.Outcomes.{Outcome, answers}
use Rattle.texts.specs.Outcomes.Outcome.{taken, refused}
use Rattle.span.specs.declared.fields.Fields.{Fields}
use Rattle.span.specs.Model.{Maps, Span, Batch}
use Rattle.batch_tables.specs.declared.fault.BatchFault.{BatchFault}
use Rattle.batch_tables.specs.declared.fault.BatchFault.TheVariants as fault
use Rattle.batch_tables.specs.declared.limits.ChunkRow.{ChunkRow}
use Rattle.batch_tables.specs.Batches.{told_as, after, if_any, all_spans, retold, outcome_of}
use Rattle.batch_tables.specs.Flat.{spans_of, chunks_of}
use Rattle.batch_tables.proofs.Edited.{length-spans}
use Rattle.batch_tables.specs.Limits.{total}

-- the spans of the chunks are all spans
pub all_spans-of : {H O : Type 0} (cs : List (ChunkRow H)) (rows : List Maps) (ss : List (Span O)) → total cs ≡ length ss → all_spans (chunks_of cs rows ss) ≡ ss
all_spans-of [] rows [] e = refl
all_spans-of [] rows (s ∷ ss) e = absurd (omega arith)
all_spans-of (c ∷ cs) [] ss e = ap (λ xs. take c.count ss ++ xs) (all_spans-of cs [] (drop c.count ss) (omega (arith, length-drop c.count ss))) ∙ take-append-drop c.count ss
all_spans-of (c ∷ cs) (ms ∷ rows) ss e = ap (λ xs. take c.count ss ++ xs) (all_spans-of cs rows (drop c.count ss) (omega (arith, length-drop c.count ss))) ∙ take-append-drop c.count ss

-- a call that wants room, and then known texts
module _ {X : Type 0} (x : X) (k : Outcome (Unit {0}) (Unit {0}) StockFault) where
  abbrev pub in_room : ℕ → ℕ → Outcome X (Unit {0}) BatchFault
  in_room n room = cond (ltb n room) (after (told_as fault.Stock k) (taken x tt)) (refused fault.Full)

  pub stop_full : (n room : ℕ) → room ≤ n → in_room n room ≡ refused fault.Full
  stop_full n room le = ap (λ b. cond b (after (told_as fault.Stock k) (taken x tt)) (refused fault.Full)) (le-ltb n room le)

  known : (k' : Outcome (Unit {0}) (Unit {0}) StockFault) → after (told_as fault.Stock k') (taken x tt) ≡ outcome_of (retold fault.Stock (answers k')) x
  known (taken y a) = refl
  known (refused f) = refl

  pub go_in_room : (n room : ℕ) (r : Result (Unit {0}) StockFault) (r' : Result (Unit {0}) BatchFault) → n < room → r ≡ answers k → r' ≡ retold fault.Stock r → in_room n room ≡ outcome_of r' x
  go_in_room n room r r' lt e told =
      ap (λ b. cond b (after (told_as fault.Stock k) (taken x tt)) (refused fault.Full)) (lt-ltb n room lt) ∙ known k ∙ ap (λ y. outcome_of (retold fault.Stock y) x) (sym e) ∙ ap (λ y. outcome_of y x) (sym told)

-- a call that wants a last chunk
pub go_some : {H O X : Type 0} (o : Outcome X (Unit {0}) BatchFault) (b : Batch H O) → 0 < length b → if_any b o ≡ o
go_some o [] e = absurd (omega arith)
go_some o (c ∷ cs) e = refl

pub all_spans-long : {H O : Type 0} (cs : List (ChunkRow H)) (crows : List Maps) (fs : List (Fields O)) (rows : List Maps) → total cs ≡ length fs → length (all_spans (chunks_of cs crows (spans_of fs rows))) ≡ length fs
all_spans-long cs crows fs rows e = ap length (all_spans-of cs crows (spans_of fs rows) (e ∙ sym (length-spans fs rows))) ∙ length-spans fs rows

-- what holds whatever is answered
pub made_so : {T E P : Type 0} (r : Result T E) → P → IfOk r (λ x. P)
made_so (Ok x) p = p
made_so (Err e) p = tt
