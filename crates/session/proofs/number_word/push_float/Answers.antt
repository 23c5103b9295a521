use Rattle.std.proofs.Common.{[], ◌∷◌, arith}
use Rattle.session.specs.Numerals.{hexes, float_word}
use Rattle.session.proofs.Buffers.{grown_none, grown_on}
use Rattle.session.proofs.Writing.{float_reads, float_visible}
use Rattle.session.proofs.number_word.push_float.Goals as goal

pub returns-in_err-push : goal.returns-in_err-push
returns-in_err-push c = record {
  grown = grown_none c.from_residual.result c.args.out.now.items (float_word c.args.bits) c.push.new.self.items c.from_residual.ensures.0 c.in_err-push.ensures.items;
  reads_back = float_reads c.args.bits (omega arith);
  whole = float_visible c.args.bits (omega arith);
}

pub returns : goal.returns
returns c = record {
  grown = grown_on c.push_hexes.result c.args.out.now.items (120 ∷ []) c.push.new.self.items (hexes 16 c.args.bits) c.push_hexes.new.out.items c.in_ok-push.ensures.items c.push_hexes.ensures;
  reads_back = float_reads c.args.bits (omega arith);
  whole = float_visible c.args.bits (omega arith);
}
