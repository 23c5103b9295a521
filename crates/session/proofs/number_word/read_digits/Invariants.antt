use Rattle.std.proofs.Common.{◌≡◌, ◌≤◌, drop}
use Rattle.session.specs.Numerals.{at_most, numeral, number_of}
use Rattle.session.proofs.number_word.read_digits.Given as goal

-- the digits that are left go on from the number so far
abbrev pub invariant-loop-byte : goal.invariant-loop-byte
invariant-loop-byte l = (at_most l.most (numeral l.base l.number (drop l.byte-index l.digits)) ≡ number_of l.base l.most l.digits) × (l.number ≤ l.most)
