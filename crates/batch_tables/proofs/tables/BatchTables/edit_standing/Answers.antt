use Rattle.std.proofs.Common.{vec_items, ap, ◌∙◌, subst}
use Rattle.texts.specs.Outcomes.{Came}
use Rattle.batch_tables.specs.declared.fault.BatchFault.TheVariants as fault
use Rattle.batch_tables.specs.Batches.{retold, edit_batch}
use Rattle.batch_tables.specs.Held.{held}
use Rattle.batch_tables.proofs.Edited.{edited, edited_shape}
use Rattle.batch_tables.proofs.Holding.{standing}
use Rattle.batch_tables.proofs.tables.BatchTables.edit_standing.Goals as goal

pub invariant_of-self : goal.invariant_of-self
invariant_of-self g c =
    let one = c.self.invariant in
    record {
      adds = one.adds;
      reach = edited_shape g.E.Edition.shown (g.S.Stock.meaning c.args.stock.now) c.args.edit _ _ c.args.owner _ _ c.edit_known-told.ensures ∙ one.reach;
      chunks_within = one.chunks_within;
      spans_within = one.spans_within;
      few_chunks = one.few_chunks;
      few_spans = one.few_spans;
      chunks_reserved = one.chunks_reserved;
      spans_reserved = one.spans_reserved;
    }

pub returns : goal.returns
returns g c =
    let b = c.self.inside in
    let v = g.E.Edition.shown in
    let t = g.S.Stock.meaning c.args.stock.now in
    let now = held (vec_items b.chunks) (vec_items b.spans) b.stride b.room (g.E.Edition.table c.edit_known-told.new.maps) in
    subst (λ h. Came (edit_batch v t c.args.edit c.args.owner h) h now c.owned.result) c.self.view_is
    (edited (vec_items b.chunks) (vec_items b.spans) b.stride b.room _ v t c.args.edit (g.E.Edition.table b.maps) (g.E.Edition.table c.edit_known-told.new.maps) c.self.invariant c.args.owner c.edit_known-told.result c.owned.result
    (standing c.self.invariant c.self.view_is c.args.owner c.requires) c.edit_known-told.ensures (c.owned.ensures ∙ ap (λ p. retold (fault.Map p) c.edit_known-told.result) c.place.ensures))
