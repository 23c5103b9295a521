use Rattle.std.proofs.Common.{not, take, rules, ap, ◌∙◌, subst}
use Rattle.vec_map.specs.Entries.{reading, without, distinct}
use Rattle.vec_map.specs.Fronts.{Front}
use Rattle.vec_map.proofs.Laws.{reading-without, distinct_without}
use Rattle.vec_map.proofs.Moves.{kept-filter}
use Rattle.vec_map.proofs.Turns.{turned_part}
use Rattle.vec_map.proofs.fronts.remove_key.Goals as goal

pub returns : goal.returns
returns g c =
    let same = g.S.Sameness.alike c.args.by.now in
    let laws = g.met.S.Sameness.equivalence c.args.by.now in
    let k = c.args.key.now in
    let all = c.args.entries.now in
    let es = take c.args.len all in
    let kept = c.keep.ensures (λ _ e. not (same e.key k)) (λ xs x r p. search rules) in
    let others = subst (Front c.keep.new.items c.keep.result) (kept-filter (λ e. not (same e.key k)) (take c.min-n.result all)) kept in
    let turned = turned_part (λ xs. without same xs k) all c.keep.new.items c.args.len c.min-n.result c.keep.result c.min-n.ensures others c.keep.auto.items in
    record {
      turned = turned;
      reads = λ q. ap (λ xs. reading same xs q) turned.front ∙ reading-without same laws es k q;
      apart = λ d. ap (distinct same) turned.front ∙ distinct_without same laws es k d;
    }
