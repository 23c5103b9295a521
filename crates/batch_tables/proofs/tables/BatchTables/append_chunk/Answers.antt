use Rattle.std.proofs.Common.{[], ◌∷◌, ◌++◌, vec_items, sym, ap, ◌∙◌, arith}
use Rattle.span.specs.Tables.{blank_maps}
use Rattle.span.specs.Views.Kind.{of_chunk}
use Rattle.batch_tables.specs.Batches.{with_batch}
use Rattle.batch_tables.specs.Held.{held, wanted_shape}
use Rattle.batch_tables.specs.Limits.{total}
use Rattle.batch_tables.proofs.Added.{total-push, chunk_reach, chunk_added}
use Rattle.batch_tables.proofs.Holding.{chunk_free}
use Rattle.batch_tables.proofs.tables.BatchTables.append_chunk.Goals as goal

pub push_reserved-requires : goal.push_reserved-requires
push_reserved-requires g c = omega (arith, chunk_free c.self.invariant c.self.view_is c.requires, c.self.inside.chunks.ok.0, c.self.invariant.chunks_reserved)

pub invariant_of-self : goal.invariant_of-self
invariant_of-self g c =
    let b = c.self.inside in
    let one = c.self.invariant in
    let lt = chunk_free one c.self.view_is c.requires in
    record {
      adds = ap total c.push_reserved.ensures.items ∙ omega (arith, total-push (vec_items b.chunks) (record { count = 0; head = c.args.head }), one.adds);
      reach = chunk_reach g.E.Edition.shown _ one c.add_chunk_row.ensures lt c.args.head ∙ ap (λ cs. wanted_shape cs (vec_items b.spans) b.stride b.room) (sym c.push_reserved.ensures.items);
      chunks_within = omega (arith, c.push_reserved.ensures.len, c.push_reserved.new.self.ok.0, b.chunks.ok.0, lt);
      spans_within = one.spans_within;
      few_chunks = one.few_chunks;
      few_spans = one.few_spans;
      chunks_reserved = omega (arith, one.chunks_reserved, c.push_reserved.ensures.capacity);
      spans_reserved = one.spans_reserved;
    }

pub returns : goal.returns
returns g c =
    let b = c.self.inside in
    let one = c.self.invariant in
    ap (λ cs. held cs (vec_items b.spans) b.stride b.room (g.E.Edition.table c.add_chunk_row.new.maps)) c.push_reserved.ensures.items
    ∙ chunk_added g.E.Edition.shown _ one c.add_chunk_row.ensures (chunk_free one c.self.view_is c.requires) c.args.head
    ∙ ap (λ h. with_batch h (h.batch ++ (record { head = c.args.head; maps = blank_maps g.E.Edition.shown of_chunk; spans = [] } ∷ []))) c.self.view_is
