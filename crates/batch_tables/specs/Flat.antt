-- The batch that flat tables are: each chunk has the next spans, as many as it counts, and each span and chunk its row of maps.
use Rattle.std.specs.Prelude.{List, [], ◌∷◌, take, drop}
use Rattle.span.specs.declared.fields.Fields.{Fields}
use Rattle.span.specs.Model.{Maps, Span, Batch}
use Rattle.batch_tables.specs.declared.limits.ChunkRow.{ChunkRow}

-- spans with their maps; a span past the last row has none
abbrev pub spans_of : {O : Type 0} → List (Fields O) → List Maps → List (Span O)
spans_of [] rows = []
spans_of (f ∷ fs) [] = record { fields = f; maps = [] } ∷ spans_of fs []
spans_of (f ∷ fs) (ms ∷ rows) = record { fields = f; maps = ms } ∷ spans_of fs rows

-- chunks with their maps and spans
abbrev pub chunks_of : {H O : Type 0} → List (ChunkRow H) → List Maps → List (Span O) → Batch H O
chunks_of [] rows ss = []
chunks_of (c ∷ cs) [] ss = record { head = c.head; maps = []; spans = take c.count ss } ∷ chunks_of cs [] (drop c.count ss)
chunks_of (c ∷ cs) (ms ∷ rows) ss = record { head = c.head; maps = ms; spans = take c.count ss } ∷ chunks_of cs rows (drop c.count ss)
