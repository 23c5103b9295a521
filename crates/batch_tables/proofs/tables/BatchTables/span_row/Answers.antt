use Rattle.std.proofs.Common.{vec_items, ap, ◌∙◌}
use Rattle.std.specs.Prelude.{slice_get}
use Rattle.batch_tables.specs.Reads.{fields_at}
use Rattle.batch_tables.proofs.Read.{got_at, fields_read}
use Rattle.batch_tables.proofs.tables.BatchTables.span_row.Goals as goal

pub returns : goal.returns
returns g c =
    let b = c.self.inside in
    let T = g.E.Edition.table b.maps in
    c.copied.ensures ∙ got_at c.deref.result.now c.args.place c.get.result c.get.ensures.lookup ∙ ap (λ xs. slice_get xs c.args.place) c.deref.ensures.value ∙ fields_read (vec_items b.chunks) T.chunks (vec_items b.spans) T.spans c.self.invariant.adds c.args.place ∙ ap (λ h. fields_at h.batch c.args.place) c.self.view_is
