use Rattle.std.proofs.Common.{◌≡◌, rules, tests, sym, ap, ◌∙◌}
use Rattle.std.specs.Option.{option_map}
use Rattle.std.proofs.lemmas.Iterator.Adapters.{YieldsList-from_rev_slice}
use Rattle.std.proofs.lemmas.Iterator.Search.{find_from_yields_List}
use Rattle.vec_map.proofs.Tests.{read_back}
use Rattle.vec_map.proofs.scans.last_value.Goals as goal

pub returns : goal.returns
returns g c =
    let es = c.args.entries.now in
    let test = λ (q : g.row.K.Denot). g.S.Sameness.alike c.args.by.now q c.args.key.now in
    let found = find_from_yields_List (λ e. test e.key) _ _ c.find.result c.find.ensures.ran (YieldsList-from_rev_slice es (search rules)) (λ x b q k. search (rules, tests)) in
    let value : c.map.result ≡ option_map (λ e. e.value) (option_map (λ y. y.now) c.find.result) = search rules in
    value ∙ ap (option_map (λ e. e.value)) found ∙ sym (read_back test es)
