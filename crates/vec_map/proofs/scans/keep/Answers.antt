use Rattle.std.proofs.Common.{◌<◌, length, sym, ◌∙◌, arith}
use Rattle.vec_map.proofs.Moves.{moving_keep, moving_skip}
use Rattle.vec_map.proofs.scans.keep.Goals as goal
use Rattle.vec_map.proofs.scans.keep.Goals.{then-wanted, else-wanted}

pub loop-i-preserved : goal.loop-i-preserved
loop-i-preserved g c =
    let lt : c.loop-i.i < length c.loop-i.items = omega arith in
    let moving = c.loop-i.invariant.2 in
    elim c.if-wanted.branch [
      | then-wanted w ↦ rw (w.items-is, w.moved-is) (c.loop-i.invariant.0, omega (arith, c.loop-i.invariant.1), λ test computes. moving_keep (moving test computes) lt c.index-items-i.result c.index-items-i.is (sym w.if-wanted.true ∙ computes _ _ _ c.wanted.ensures))
      | else-wanted w ↦ rw (w.items-is, w.moved-is) (c.loop-i.invariant.0, omega (arith, c.loop-i.invariant.1), λ test computes. moving_skip (moving test computes) lt c.index-items-i.result c.index-items-i.is (sym w.if-wanted.false ∙ computes _ _ _ c.wanted.ensures))
    ]
