-- What a question on one span is answered.
use Rattle.std.specs.Prelude.{ℕ, List, [], ◌∷◌, Some, None, Option}
use Rattle.texts.specs.declared.stock.Text.{Text}
use Rattle.texts.specs.Outcomes.{Outcome}
use Rattle.texts.specs.Outcomes.Outcome.{taken, refused}
use Rattle.texts.specs.Stocks.{Texts}
use Rattle.vec_map.specs.Entries.{entry_at}
use Rattle.span.specs.Model.{Span}
use Rattle.span.specs.Questions.{top_level, measured, partial_snapshot}
use Rattle.span.specs.Readings.{face}
use Rattle.span.specs.Tables.{if_all_known}
use Rattle.span.specs.Views.{View, Sight}
use Rattle.batch_tables.specs.declared.fault.BatchFault.{BatchFault}
use Rattle.batch_tables.specs.declared.fault.BatchFault.TheVariants as fault
use Rattle.batch_tables.specs.declared.query.Question.{Question}
use Rattle.batch_tables.specs.declared.query.Question.TheVariants as ask
use Rattle.batch_tables.specs.declared.query.Reply.{Reply}
use Rattle.batch_tables.specs.declared.query.Reply.TheVariants as reply
use Rattle.batch_tables.specs.Batches.{Held, told_as, after, all_spans}

-- the key that a question names
abbrev pub question_texts : Question → List Text
question_texts (ask.Tag k) = k ∷ []
question_texts (ask.Number k) = k ∷ []
question_texts ask.TopLevel = []
question_texts ask.Measured = []
question_texts ask.PartialSnapshot = []

-- what is answered of what is seen
abbrev pub reply_to : Texts → Question → Sight → Reply
reply_to t (ask.Tag k) s = reply.Tag (s.tag (t.bytes k))
reply_to t (ask.Number k) s = reply.Number (s.number (t.bytes k))
reply_to t ask.TopLevel s = reply.Flag (top_level s.number)
reply_to t ask.Measured s = reply.Flag (measured s.number)
reply_to t ask.PartialSnapshot s = reply.Flag (partial_snapshot s.number)

-- a question wants its key known
abbrev pub asked_known : Texts → Question → Sight → Outcome (Unit {0}) Reply BatchFault
asked_known t q s = after (told_as fault.Stock (if_all_known t (question_texts q))) (taken tt (reply_to t q s))

module _ {H O : Type 0} (v : View H O) (t : Texts) where
  -- and its span
  abbrev pub asked_of : ℕ → Question → Option (Span O) → Outcome (Unit {0}) Reply BatchFault
  asked_of p q None = refused (fault.NoSpan p)
  asked_of p q (Some s) = asked_known t q (v.sees t (face t s))

  abbrev pub query_batch : ℕ → Question → Held H O → Outcome (Unit {0}) Reply BatchFault
  query_batch p q h = asked_of p q (entry_at (all_spans h.batch) p)
