use Rattle.std.proofs.Common.{◌+◌, ◌++◌, get_or, take, ap, ◌∙◌}
use Rattle.std.proofs.lemmas.List.{take_all}
use Rattle.std.specs.List.{flat_map}
use Rattle.session.specs.Texts.{spelt_byte}
use Rattle.session.proofs.Buffers.{joins, joined_step, grown_broke}
use Rattle.session.proofs.text_word.push_bytes.Goals as goal

pub returns-in_err-push_byte : goal.returns-in_err-push_byte
returns-in_err-push_byte c =
    grown_broke c.from_residual.result c.args.out.now.items (flat_map spelt_byte c.args.text.now) (flat_map spelt_byte (take c.loop-byte.byte-index c.args.text.now)) c.loop-byte.out.items c.push_byte.new.out.items
    c.from_residual.ensures.0 c.loop-byte.invariant c.in_err-push_byte.ensures

pub loop-byte-preserved : goal.loop-byte-preserved
loop-byte-preserved c =
    joins c.args.out.now.items (flat_map spelt_byte (take c.loop-byte.byte-index c.args.text.now)) c.loop-byte.out.items (spelt_byte (get_or c.args.text.now c.loop-byte.byte-index 0)) c.push_byte.new.out.items (flat_map spelt_byte (take (c.loop-byte.byte-index + 1) c.args.text.now))
    c.loop-byte.invariant
    c.in_ok-push_byte.ensures
    (joined_step spelt_byte c.args.text.now c.loop-byte.byte-index 0 c.loop-byte-test.true)

pub returns : goal.returns
returns c = c.loop-byte.invariant ∙ ap (λ xs. c.args.out.now.items ++ flat_map spelt_byte xs) (take_all c.loop-byte.byte-index c.args.text.now c.loop-byte-test.false)
