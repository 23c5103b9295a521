use Rattle.std.proofs.Common.{not, reverse, take, rules, ap, ◌∙◌, subst}
use Rattle.vec_map.specs.Entries.{holds_key, reading, lasts, distinct}
use Rattle.vec_map.specs.Fronts.{Front, kept_by}
use Rattle.vec_map.proofs.Laws.{reading-dedup, distinct-dedup}
use Rattle.vec_map.proofs.Moves.{kept-lasts}
use Rattle.vec_map.proofs.Turns.{turned_part}
use Rattle.vec_map.proofs.fronts.remove_earlier.Goals as goal

pub returns : goal.returns
returns g c =
    let same = g.S.Sameness.alike c.args.by.now in
    let laws = g.met.S.Sameness.equivalence c.args.by.now in
    let all = c.args.entries.now in
    let es = take c.args.len all in
    let kept = c.keep.ensures (λ kept e. not (holds_key same kept e.key)) (λ xs x r p. search rules) in
    let firsts = ap (kept_by (λ kept e. not (holds_key same kept e.key))) c.reverse.ensures.after ∙ kept-lasts same laws (take c.min-n.result all) in
    let turned = turned_part (λ xs. reverse (lasts same xs)) all c.keep.new.items c.args.len c.min-n.result c.keep.result c.min-n.ensures (subst (Front c.keep.new.items c.keep.result) firsts kept) (c.keep.auto.items ∙ c.reverse.ensures.len) in
    record {
      turned = turned;
      reads = λ q. ap (λ xs. reading same xs q) turned.front ∙ reading-dedup same laws es q;
      apart = ap (distinct same) turned.front ∙ distinct-dedup same laws es;
    }
