use Rattle.std.proofs.Common.{take, ap, ◌∙◌}
use Rattle.vec_map.specs.Entries.{reading, distinct}
use Rattle.vec_map.proofs.Laws.{reading-written, distinct-value}
use Rattle.vec_map.proofs.Turns.{turned_rewrite}
use Rattle.vec_map.proofs.fronts.rewrite.Goals as goal

pub returns : goal.returns
returns g c =
    let es = take c.args.len c.args.entries.now in
    let turned = turned_rewrite c.args.entries.now c.args.len c.args.place c.args.value c.index-entries-place.result c.requires.held c.requires.within in
    record {
      turned = turned;
      reads = λ same laws k last q. ap (λ xs. reading same xs q) turned.front ∙ reading-written same laws es k c.args.place c.args.value last q;
      apart = λ same laws. ap (distinct same) turned.front ∙ distinct-value same laws es c.args.place c.args.value;
    }
