use Rattle.std.proofs.Common.{cond, [], ◌∷◌, ap, ◌∙◌, subst}
use Rattle.session.specs.Buffers.{Grown}
use Rattle.session.specs.Numerals.{hexes}
use Rattle.session.specs.Texts.{spelt_byte}
use Rattle.session.proofs.Buffers.{grown_none, grown_on}
use Rattle.session.proofs.text_word.push_byte.Goals as goal

pub returns-in_err-push : goal.returns-in_err-push
returns-in_err-push c = grown_none c.from_residual.result c.args.out.now.items (spelt_byte c.args.byte) c.push.new.self.items c.from_residual.ensures.0 c.in_err-push.ensures.items

pub returns-in_err-push-2 : goal.returns-in_err-push-2
returns-in_err-push-2 c = grown_none c.from_residual-in_err-push-2.result c.args.out.now.items (spelt_byte c.args.byte) c.push-2.new.self.items c.from_residual-in_err-push-2.ensures.0 c.in_err-push-2.ensures.items

pub returns : goal.returns
returns c =
    subst (λ word. Grown c.push_hexes.result c.args.out.now.items word c.push_hexes.new.out.items)
    (ap (λ n. 37 ∷ hexes 2 n) c.from.ensures ∙ ap (λ b. cond b (c.args.byte ∷ []) (37 ∷ hexes 2 c.args.byte)) c.if-is_plain.ensures)
    (grown_on c.push_hexes.result c.args.out.now.items (37 ∷ []) c.push-2.new.self.items (hexes 2 c.from.result) c.push_hexes.new.out.items c.in_ok-push-2.ensures.items c.push_hexes.ensures)
