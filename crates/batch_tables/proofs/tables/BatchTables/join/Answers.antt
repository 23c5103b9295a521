use Rattle.std.proofs.Common.{◌≤◌, length, vec_items, vec_len, ap, ◌∙◌, arith}
use Rattle.std.proofs.lemmas.Bool.{and_parts, eqb-true, leb-true}
use Rattle.batch_tables.proofs.Joined.{same_shapes}
use Rattle.batch_tables.proofs.tables.BatchTables.join.Goals as goal

pub invariant_of-result : goal.invariant_of-result
invariant_of-result g c =
    let p = c.args.parts in
    let one = and_parts _ _ c.requires.together in
    let two = and_parts _ _ one.1 in
    let three = and_parts _ _ two.1 in
    let counted = and_parts _ _ three.0 in
    let reserved = and_parts _ _ three.1 in
    let few = and_parts _ _ c.requires.few in
    record {
      adds = eqb-true _ _ one.0 ∙ p.spans.ok.0;
      reach = same_shapes _ _ two.0 ∙ ap (λ n. record { stride = p.stride; chunk_room = p.room.chunks; span_room = p.room.spans; chunks = n; spans = vec_len p.spans }) p.chunks.ok.0 ∙ ap (λ n. record { stride = p.stride; chunk_room = p.room.chunks; span_room = p.room.spans; chunks = length (vec_items p.chunks); spans = n }) p.spans.ok.0;
      chunks_within = let le : vec_len p.chunks ≤ p.room.chunks = leb-true _ _ counted.0 in omega (arith, p.chunks.ok.0);
      spans_within = let le : vec_len p.spans ≤ p.room.spans = leb-true _ _ counted.1 in omega (arith, p.spans.ok.0);
      few_chunks = leb-true _ _ few.0;
      few_spans = leb-true _ _ few.1;
      chunks_reserved = leb-true _ _ reserved.0;
      spans_reserved = leb-true _ _ reserved.1;
    }
