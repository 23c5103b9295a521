use Rattle.std.proofs.Common.{refl, ◌∙◌, subst}
use Rattle.texts.specs.Outcomes.{Came, at_place}
use Rattle.vec_map.specs.declared.fault.MapFault.TheVariants.{NoPlace}
use Rattle.vec_map.specs.Maps.{insert_into}
use Rattle.map_table.specs.Rows.{maps_of}
use Rattle.v04.specs.Maps.{beside}
use Rattle.v04.proofs.SpanEdits.{insert_second}
use Rattle.v04.proofs.Whole.{rows-kept, part_came, length-came}
use Rattle.v04.proofs.maps.V04Maps.insert_float.Goals as goal

pub invariant_of-self : goal.invariant_of-self
invariant_of-self c =
    let m = c.self.inside in
    let call = c.insert.ensures in
    rows-kept m m.meta _ c.self.invariant (length-came _ _ _ _ _ _ call.came ∙ c.self.invariant.paired) (record { stride = refl; room = refl }) call.shape

pub returns : goal.returns
returns c =
    let m = c.self.inside in
    let same = c.self.invariant in
    let ms = maps_of m.meta in
    let ns = maps_of m.metrics in
    let came = subst (λ st. Came (at_place NoPlace (insert_into st c.args.key c.args.bits) ns c.args.row) ns (maps_of c.insert.new.self) c.insert.result) same.strides c.insert.ensures.came in
    rw (← c.self.view_is)
    (part_came (λ xs. beside ms xs) ns _ _ _ m.meta.stride _ m.chunk_room m.meta.room _ _ _
    (insert_second ms ns c.args.row same.paired m.meta.stride c.args.key c.args.bits) refl refl came)
