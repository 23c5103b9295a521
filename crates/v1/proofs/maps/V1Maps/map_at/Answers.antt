use Rattle.std.proofs.Common.{ap, ◌∙◌, arith}
use Rattle.map_table.specs.Rows.{maps_of}
use Rattle.span.specs.Tables.{owner_maps}
use Rattle.v1.specs.Tables.{v1_table}
use Rattle.v1.proofs.Single.{owner_single, owner_other}
use Rattle.v1.proofs.maps.V1Maps.map_at.Goals as goal

pub returns-then-which-gt0 : goal.returns-then-which-gt0
returns-then-which-gt0 c =
    let m = c.self.inside in
    rw (← c.self.view_is) (owner_other m.spans m.chunks c.args.owner c.args.which (omega arith))

pub returns-in-Span : goal.returns-in-Span
returns-in-Span c =
    let m = c.self.inside in
    let t = v1_table m.spans m.chunks in
    rw (← c.self.view_is)
    (c.row.ensures ∙ owner_single t c.args.owner (maps_of m.spans) c.in-Span.row c.args.which (omega arith) (ap (λ o. owner_maps o t) c.in-Span.is))

pub returns-in-Chunk : goal.returns-in-Chunk
returns-in-Chunk c =
    let m = c.self.inside in
    let t = v1_table m.spans m.chunks in
    rw (← c.self.view_is)
    (c.row-in-Chunk.ensures ∙ owner_single t c.args.owner (maps_of m.chunks) c.in-Chunk.row c.args.which (omega arith) (ap (λ o. owner_maps o t) c.in-Chunk.is))
