use Rattle.std.proofs.Common.{[], ◌∷◌}
use Rattle.std.specs.List.{flat_map}
use Rattle.session.specs.Texts.{spelt, spelt_byte}
use Rattle.session.proofs.Buffers.{grown_none, grown_on}
use Rattle.session.proofs.Texts.{text_reads, text_visible}
use Rattle.session.proofs.text_word.push_text.Goals as goal

pub returns-in_err-push : goal.returns-in_err-push
returns-in_err-push c = record {
  grown = grown_none c.from_residual.result c.args.out.now.items (spelt c.args.text.now) c.push.new.self.items c.from_residual.ensures.0 c.in_err-push.ensures.items;
  reads_back = text_reads c.args.text.now c.type_inv.text;
  whole = text_visible c.args.text.now c.type_inv.text;
}

pub returns : goal.returns
returns c = record {
  grown = grown_on c.push_bytes.result c.args.out.now.items (39 ∷ []) c.push.new.self.items (flat_map spelt_byte c.args.text.now) c.push_bytes.new.out.items c.in_ok-push.ensures.items c.push_bytes.ensures;
  reads_back = text_reads c.args.text.now c.type_inv.text;
  whole = text_visible c.args.text.now c.type_inv.text;
}
