use Rattle.std.proofs.Common.{None, refl, ap, arith}
use Rattle.texts.specs.Outcomes.{carry}
use Rattle.map_table.proofs.Placed.{none_at}
use Rattle.span.specs.Edits.{insert_home}
use Rattle.span.specs.Tables.{with_spans}
use Rattle.v04.proofs.Calls.{refused-at}
use Rattle.v04.proofs.Whole.{refused-came}
use Rattle.v04.proofs.maps.V04Maps.lacks.Goals as goal

pub returns-then-row-span_count : goal.returns-then-row-span_count
returns-then-row-span_count c =
    let t = c.args.self.now in
    refused-came _ t _ (ap (carry (with_spans t)) (refused-at _ _ (insert_home t.stride None c.args.key c.args.value) (λ ms. refl) t.spans c.args.row (omega arith)))

pub returns-else-row-span_count : goal.returns-else-row-span_count
returns-else-row-span_count c =
    let t = c.args.self.now in
    refused-came _ t _ (ap (carry (with_spans t)) (none_at _ (insert_home t.stride None c.args.key c.args.value) t.spans c.args.row (omega arith)))
