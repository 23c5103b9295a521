use Rattle.std.proofs.Common.{◌≡◌, ◌++◌, take, vec_items}
use Rattle.std.specs.List.{flat_map}
use Rattle.session.specs.Texts.{spelt_byte}
use Rattle.session.proofs.text_word.push_bytes.Given as goal

-- the bytes so far are written
abbrev pub invariant-loop-byte : goal.invariant-loop-byte
invariant-loop-byte l = vec_items l.out ≡ vec_items l.initial.out ++ flat_map spelt_byte (take l.byte-index l.text)
