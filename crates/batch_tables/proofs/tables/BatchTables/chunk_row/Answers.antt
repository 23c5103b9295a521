use Rattle.std.proofs.Common.{vec_items, sym, ap, ◌∙◌}
use Rattle.std.specs.Prelude.{slice_get}
use Rattle.batch_tables.specs.Flat.{spans_of}
use Rattle.batch_tables.specs.Reads.{chunk_at}
use Rattle.batch_tables.proofs.Edited.{length-spans}
use Rattle.batch_tables.proofs.Read.{got_at, chunk_read}
use Rattle.batch_tables.proofs.tables.BatchTables.chunk_row.Goals as goal

pub returns : goal.returns
returns g c =
    let b = c.self.inside in
    let T = g.E.Edition.table b.maps in
    let fs = vec_items b.spans in
    c.copied.ensures ∙ got_at c.deref.result.now c.args.place c.get.result c.get.ensures.lookup ∙ ap (λ xs. slice_get xs c.args.place) c.deref.ensures.value ∙ chunk_read (vec_items b.chunks) T.chunks (spans_of fs T.spans) c.args.place (c.self.invariant.adds ∙ sym (length-spans fs T.spans)) ∙ ap (λ h. chunk_at h.batch c.args.place) c.self.view_is
