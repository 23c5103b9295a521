-- A batch as it is meant: a list of chunks, each with its own fields and maps and with its spans, each of which has fields and maps.
use Rattle.std.specs.Prelude.{ℕ, List}
use Rattle.texts.specs.declared.stock.Text.{Text}
use Rattle.vec_map.specs.Maps.{Map}
use Rattle.span.specs.declared.fields.Fields.{Fields}
use Rattle.span.specs.declared.value.Value.{Value}

abbrev pub Bytes : Type 0
Bytes = List ℕ

-- the maps of one span, or of one chunk
abbrev pub Maps : Type 0
Maps = List (Map Text Value)

-- O is what an edition alone has of a span, H what it has of a chunk
pub record Span (O : Type 0) : Type 0 where
  pub fields : Fields O
  pub maps : Maps

pub record Chunk (H O : Type 0) : Type 0 where
  pub head : H
  pub maps : Maps
  pub spans : List (Span O)

abbrev pub Batch : Type 0 → Type 0 → Type 0
Batch H O = List (Chunk H O)
