-- Texts as words: a quote, and then each byte as itself or as a percent sign and two places in base sixteen.
use Rattle.std.specs.Prelude.{◌≡◌, ℕ, ◌<◌, Bool, cond, not, ◌&&◌, List, [], ◌∷◌, ◌++◌, length, Some, None, Option, ◌==◌}
use Rattle.std.specs.List.{flat_map}
use Rattle.std.specs.Option.{option_map, option_and_then}
use Rattle.std.specs.Int.{is_in_range as within}
use Rattle.session.specs.Lines.{past_mark}
use Rattle.session.specs.Numerals.{number_of, hexes}

-- a byte that is written as itself
abbrev pub plain : ℕ → Bool
plain c = within 33 126 c && not (c == 37)

abbrev pub spelt_byte : ℕ → List ℕ
spelt_byte c = cond (plain c) (c ∷ []) (37 ∷ hexes 2 c)

-- what a text is written as
abbrev pub spelt : List ℕ → List ℕ
spelt text = 39 ∷ flat_map spelt_byte text

abbrev pub itself : ℕ → Option ℕ
itself c = cond (plain c) (Some c) None

-- a byte in front of a text, where both are there
abbrev pub onto : Option ℕ → Option (List ℕ) → Option (List ℕ)
onto None t = None
onto (Some c) None = None
onto (Some c) (Some cs) = Some (c ∷ cs)

-- the text that bytes spell
abbrev pub unspelt : List ℕ → Option (List ℕ)
unspelt [] = Some []
unspelt (c ∷ []) = onto (itself c) (Some [])
unspelt (c ∷ (d ∷ [])) = onto (itself c) (unspelt (d ∷ []))
unspelt (c ∷ (d ∷ (e ∷ cs))) = cond (c == 37) (onto (number_of 16 255 (d ∷ (e ∷ []))) (unspelt cs)) (onto (itself c) (unspelt (d ∷ (e ∷ cs))))

-- the text that a word means
abbrev pub text_of : List ℕ → Option (List ℕ)
text_of cs = option_and_then unspelt (past_mark 39 cs)

-- the bytes spell c, and then what the rest spells
pub record SpellsFirst (cs : List ℕ) (c : ℕ) (rest : List ℕ) : Type 0 where
  pub shorter : length rest < length cs
  pub spelt : unspelt cs ≡ onto (Some c) (unspelt rest)

-- a text after bytes that were read
abbrev pub after_all : List ℕ → Option (List ℕ) → Option (List ℕ)
after_all cs t = option_map (λ ds. cs ++ ds) t
