-- The place of a span or chunk.
use Rattle.std.specs.Prelude.{ℕ}
use Rattle.span.specs.declared.owner.Owner.{Owner}
use Rattle.span.specs.declared.owner.Owner.TheVariants.{Span, Chunk}

abbrev pub owner_place : Owner → ℕ
owner_place (Span p) = p
owner_place (Chunk p) = p
