use Rattle.std.proofs.Common.{refl, sym, ◌∙◌}
use Rattle.map_table.specs.Rows.{maps_of}
use Rattle.v04.specs.Maps.{beside}
use Rattle.v04.proofs.SpanEdits.{insert_first}
use Rattle.v04.proofs.Whole.{rows-kept, part_came, length-came}
use Rattle.v04.proofs.maps.V04Maps.insert_text.Goals as goal

pub invariant_of-self : goal.invariant_of-self
invariant_of-self c =
    let m = c.self.inside in
    let call = c.insert.ensures in
    rows-kept m _ m.metrics c.self.invariant (c.self.invariant.paired ∙ sym (length-came _ _ _ _ _ _ call.came)) call.shape (record { stride = refl; room = refl })

pub returns : goal.returns
returns c =
    let m = c.self.inside in
    let call = c.insert.ensures in
    let ms = maps_of m.meta in
    let ns = maps_of m.metrics in
    rw (← c.self.view_is)
    (part_came (λ xs. beside xs ns) ms _ _ _ m.meta.stride _ m.chunk_room m.meta.room _ _ _
    (insert_first ms ns c.args.row c.self.invariant.paired m.meta.stride c.args.key c.args.text) call.shape.stride call.shape.room call.came)
