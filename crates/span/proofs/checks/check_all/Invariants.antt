use Rattle.std.proofs.Common.{◌≡◌, drop}
use Rattle.texts.specs.Outcomes.{answers}
use Rattle.span.specs.Tables.{if_all_known}
use Rattle.span.proofs.checks.check_all.Given as goal

-- what is answered of all texts is answered of those that are still to come
abbrev pub invariant-loop-text : goal.invariant-loop-text
invariant-loop-text g l =
    let meaning = g.S.Stock.meaning l.stock in
    answers (if_all_known meaning (drop l.text-index l.texts)) ≡ answers (if_all_known meaning l.texts)
