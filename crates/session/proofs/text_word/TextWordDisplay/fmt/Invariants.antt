use Rattle.std.proofs.Common.{◌∷◌, take}
use Rattle.std.specs.List.{flat_map}
use Rattle.std.specs.Fmt.{HasWritten, IsPlainFormatter}
use Rattle.session.specs.Texts.{spelt_byte}
use Rattle.session.proofs.text_word.TextWordDisplay.fmt.Given as goal

-- the quote and the bytes so far are written
abbrev pub invariant-loop-byte : goal.invariant-loop-byte
invariant-loop-byte g l =
    IsPlainFormatter l.fn.f → HasWritten g.W.Write.write_str_gives l.fn.f (39 ∷ flat_map spelt_byte (take l.byte-index l.byte-items)) l.f
