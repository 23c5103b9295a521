use Rattle.std.proofs.Common.{◌≡◌, suc, ◌+◌, ◌-◌, ◌<◌, ◌≤◌, length, get_or, set, vec_items, sym, ap, ◌∙◌, arith}
use Rattle.std.proofs.lemmas.List.{length-set}
use Rattle.span.specs.Tables.{blank_maps}
use Rattle.span.specs.Views.Kind.{of_span}
use Rattle.batch_tables.specs.declared.limits.ChunkRow.{ChunkRow}
use Rattle.batch_tables.specs.Batches.{with_batch, to_last}
use Rattle.batch_tables.specs.Held.{held, wanted_shape}
use Rattle.batch_tables.specs.Limits.{total}
use Rattle.batch_tables.proofs.Added.{total-set, count-within, span_reach, span_added}
use Rattle.batch_tables.proofs.Holding.{span_free, some_chunk}
use Rattle.batch_tables.proofs.tables.BatchTables.append_span.Goals as goal

pub push_reserved-requires : goal.push_reserved-requires
push_reserved-requires g c = omega (arith, span_free c.self.invariant c.self.view_is c.requires.room, c.self.inside.spans.ok.0, c.self.invariant.spans_reserved)

pub overflow_add-row : goal.overflow_add-row
overflow_add-row g c =
    let b = c.self.inside in
    let one = c.self.invariant in
    let cs = vec_items b.chunks in
    let row = c.index-row.result.now in
    let i = c.len-last.result - 1 in
    let is : row.count ≡ (get_or cs i row).count = ap (λ x. x.count) c.index-row.ensures in
    let le : (get_or cs i row).count ≤ total cs = count-within cs i row (omega (arith, c.len-last.ensures, b.chunks.ok.0, some_chunk one c.self.view_is 0 c.requires.some)) in
    omega (arith, one.adds, one.spans_within, one.few_spans)

pub invariant_of-self : goal.invariant_of-self
invariant_of-self g c =
    let b = c.self.inside in
    let one = c.self.invariant in
    let cs = vec_items b.chunks in
    let row = c.index-row.result.now in
    let i = c.len-last.result - 1 in
    let next : ChunkRow g.row.E-Head.Denot = record { count = row.count + 1; head = row.head } in
    let lt : i < length cs = omega (arith, c.len-last.ensures, b.chunks.ok.0, some_chunk one c.self.view_is 0 c.requires.some) in
    let more : row.count + 1 ≡ (get_or cs i row).count + 1 = ap (λ x. x.count + 1) c.index-row.ensures in
    let free = span_free one c.self.view_is c.requires.room in
    record {
      adds = omega (arith, total-set cs i next row lt more, one.adds, c.push_reserved.ensures.len, c.push_reserved.new.self.ok.0, b.spans.ok.0);
      reach = span_reach g.E.Edition.shown _ one c.add_span_row.ensures free c.args.fields i next row ∙ ap (λ fs. wanted_shape (set cs i next) fs b.stride b.room) (sym c.push_reserved.ensures.items);
      chunks_within = omega (arith, length-set cs i next, one.chunks_within);
      spans_within = omega (arith, c.push_reserved.ensures.len, c.push_reserved.new.self.ok.0, b.spans.ok.0, free);
      few_chunks = one.few_chunks;
      few_spans = one.few_spans;
      chunks_reserved = one.chunks_reserved;
      spans_reserved = omega (arith, one.spans_reserved, c.push_reserved.ensures.capacity);
    }

pub returns : goal.returns
returns g c =
    let b = c.self.inside in
    let one = c.self.invariant in
    let cs = vec_items b.chunks in
    let row = c.index-row.result.now in
    let i = c.len-last.result - 1 in
    let next : ChunkRow g.row.E-Head.Denot = record { count = row.count + 1; head = row.head } in
    let last : suc i ≡ length cs = omega (arith, c.len-last.ensures, b.chunks.ok.0, some_chunk one c.self.view_is 0 c.requires.some) in
    ap (λ fs. held (set cs i next) fs b.stride b.room (g.E.Edition.table c.add_span_row.new.maps)) c.push_reserved.ensures.items
    ∙ span_added g.E.Edition.shown _ one c.add_span_row.ensures (span_free one c.self.view_is c.requires.room) c.args.fields i next row last (ap (λ x. x.count + 1) c.index-row.ensures) (ap (λ x. x.head) c.index-row.ensures)
    ∙ ap (λ h. with_batch h (to_last (record { fields = c.args.fields; maps = blank_maps g.E.Edition.shown of_span }) h.batch)) c.self.view_is
