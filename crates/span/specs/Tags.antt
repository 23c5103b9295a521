-- The bytes that a tag shows.
use Rattle.std.specs.Prelude.{ℕ, List}
use Rattle.texts.specs.Stocks.{Texts}
use Rattle.span.specs.declared.tag.Tag.{Tag}
use Rattle.span.specs.declared.tag.Tag.TheVariants as shows
use Rattle.span.specs.Kinds.{kind_word}

abbrev pub tag_bytes : Texts → Tag → List ℕ
tag_bytes t (shows.Text x) = t.bytes x
tag_bytes t (shows.Kind k) = kind_word k
