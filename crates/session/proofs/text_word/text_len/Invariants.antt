use Rattle.std.proofs.Common.{◌≡◌, ◌+◌, ◌≤◌, length}
use Rattle.std.specs.Option.{option_map}
use Rattle.session.specs.Texts.{unspelt}
use Rattle.session.proofs.text_word.text_len.Given as goal

-- the bytes so far, and those that the rest spells
abbrev pub invariant-loop-rest : goal.invariant-loop-rest
invariant-loop-rest l = (option_map (λ ds. l.len + length ds) (unspelt l.rest) ≡ option_map length (unspelt l.spelling)) × (l.len + length l.rest ≤ length l.spelling)

abbrev pub decreases-loop-rest : goal.decreases-loop-rest
decreases-loop-rest l = length l.rest
