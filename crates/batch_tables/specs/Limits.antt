-- How much a batch holds at most, and how its spans are counted.
use Rattle.std.specs.Prelude.{ℕ, ◌+◌, List, [], ◌∷◌}
use Rattle.batch_tables.specs.declared.limits.ChunkRow.{ChunkRow}

abbrev pub most_chunks : ℕ
most_chunks = 1024

abbrev pub most_spans : ℕ
most_spans = 16384

-- how many spans the chunks have together
abbrev pub total : {H : Type 0} → List (ChunkRow H) → ℕ
total [] = 0
total (c ∷ cs) = c.count + total cs
