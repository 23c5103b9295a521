use Rattle.std.proofs.Common.{◌-◌, ◌/◌, [], ◌∷◌, ◌++◌, sym, ap, ◌∙◌, append-nil}
use Rattle.session.specs.Numerals.{hexes}
use Rattle.session.proofs.Buffers.{joins, grown_part}
use Rattle.session.proofs.Writing.{hexes-none, hexes-more}
use Rattle.session.proofs.number_word.+push_hexes.Goals as goal

pub returns-then-places-eq0 : goal.returns-then-places-eq0
returns-then-places-eq0 t c = sym (append-nil _) ∙ ap (λ xs. c.args.out.now.items ++ xs) (sym (hexes-none c.args.places c.args.number c.if-places-eq0.true))

pub returns-in_err-push : goal.returns-in_err-push
returns-in_err-push t c =
    grown_part c.from_residual-in_err-push.result c.args.out.now.items (hexes c.args.places c.args.number) (hexes (c.args.places - 1) (c.args.number / 16)) c.push.new.self.items
    c.from_residual-in_err-push.ensures.0 (c.in_err-push.ensures.items ∙ c.in_ok-push_hexes.ensures)

pub returns : goal.returns
returns t c =
    joins c.args.out.now.items (hexes (c.args.places - 1) (c.args.number / 16)) c.push_hexes.new.out.items (c.hex_digit.result ∷ []) c.push.new.self.items (hexes c.args.places c.args.number)
    c.in_ok-push_hexes.ensures
    c.in_ok-push.ensures.items
    (hexes-more c.args.places c.args.number c.if-places-eq0.false ∙ ap (λ d. hexes (c.args.places - 1) (c.args.number / 16) ++ d ∷ []) (sym c.hex_digit.ensures))
