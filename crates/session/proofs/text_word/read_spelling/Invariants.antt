use Rattle.std.proofs.Common.{◌≡◌, length, vec_items}
use Rattle.session.specs.Texts.{unspelt, after_all}
use Rattle.session.proofs.text_word.read_spelling.Given as goal

-- the text so far, and then what the rest spells
abbrev pub invariant-loop-rest : goal.invariant-loop-rest
invariant-loop-rest l = after_all (vec_items l.text) (unspelt l.rest) ≡ unspelt l.spelling

abbrev pub decreases-loop-rest : goal.decreases-loop-rest
decreases-loop-rest l = length l.rest
