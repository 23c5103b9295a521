use Rattle.std.proofs.Common.{vec_len}
use Rattle.dictionary.specs.Held.{texts_in}
use Rattle.dictionary.proofs.Chains.{Walk, steps_left}
use Rattle.dictionary.proofs.Dictionary.place.Given as goal

abbrev pub invariant-loop-at : goal.invariant-loop-at
invariant-loop-at l = Walk (vec_len l.self.heads) (texts_in l.self) l.bytes l.at

abbrev pub decreases-loop-at : goal.decreases-loop-at
decreases-loop-at l = steps_left l.at
