use Rattle.std.proofs.Common.{take, ap, ◌∙◌}
use Rattle.std.proofs.lemmas.List.{take_more_set}
use Rattle.vec_map.specs.Entries.{reading}
use Rattle.vec_map.proofs.Laws.{reading-insert}
use Rattle.vec_map.proofs.fronts.append.Goals as goal

pub returns-clause-reads : goal.returns-clause-reads
returns-clause-reads g c = λ same laws q.
    ap (λ es. reading same es q) (take_more_set c.args.entries.now c.args.len c.args.entry c.requires)
    ∙ reading-insert same laws (take c.args.len c.args.entries.now) c.args.entry q
