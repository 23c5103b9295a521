use Rattle.std.proofs.Common.{rules, tests, sym, ◌∙◌}
use Rattle.std.proofs.lemmas.Iterator.{YieldsList-from_slice}
use Rattle.std.proofs.lemmas.Iterator.Adapters.{option_map_id}
use Rattle.std.proofs.lemmas.Iterator.Consumers.{YieldsList-from_copied}
use Rattle.std.proofs.lemmas.Iterator.Search.{find_from_yields_List}
use Rattle.std.proofs.lemmas.Slice.Eq.{bytes_eq-Decides}
use Rattle.std.specs.Str.{bytes_eq}
use Rattle.span.specs.Keys.{key_spelling, key_bytes}
use Rattle.v1.proofs.shown.key_among.Goals as goal

pub returns : goal.returns
unfolding key_bytes
returns c =
    sym (option_map_id c.find.result)
    ∙ find_from_yields_List (λ k. bytes_eq c.args.bytes.now (key_spelling k)) _ _ c.find.result c.find.ensures.ran
    (YieldsList-from_copied (YieldsList-from_slice c.args.keys.now cc))
    (λ x b q k. search (rules, tests, bytes_eq-Decides))
