-- Kinds of values, each with the letter that stands for it.
use Rattle.std.specs.Prelude.{ℕ, List, [], ◌∷◌, None, Option, ◌==◌}
use Rattle.std.specs.List.{find}
use Rattle.session.specs.declared.kind_word.ValueKind.{ValueKind}
use Rattle.session.specs.declared.kind_word.ValueKind.TheVariants.{Text, Float, Int, Bool as Flag, Bytes, KeyValue, List as Listing}

abbrev pub letter_of : ValueKind → ℕ
letter_of Text = 116
letter_of Float = 102
letter_of Int = 105
letter_of Flag = 98
letter_of Bytes = 121
letter_of KeyValue = 107
letter_of Listing = 108

abbrev pub kinds : List ValueKind
kinds = Text ∷ Float ∷ Int ∷ Flag ∷ Bytes ∷ KeyValue ∷ Listing ∷ []

-- the word of a kind is its letter
abbrev pub kind_word : ValueKind → List ℕ
kind_word kind = letter_of kind ∷ []

abbrev pub kind_of : List ℕ → Option ValueKind
kind_of [] = None
kind_of (c ∷ []) = find (λ kind. c == letter_of kind) kinds
kind_of (c ∷ (d ∷ cs)) = None
