-- Shapes that are tested for equality part by part.
use Rattle.std.proofs.Common.{◌≡◌, true, ap, ◌∙◌}
use Rattle.std.proofs.lemmas.Bool.{and_parts, eqb-true}
use Rattle.span.specs.declared.shape.Shape.{Shape}
use Rattle.batch_tables.specs.Handing.{same_shape}

pub same_shapes : (a b : Shape) → same_shape a b ≡ true → a ≡ b
same_shapes a b h =
    let one = and_parts _ _ h in
    let two = and_parts _ _ one.1 in
    let three = and_parts _ _ two.1 in
    let four = and_parts _ _ three.1 in
    ap (λ n. record { stride = n; chunk_room = a.chunk_room; span_room = a.span_room; chunks = a.chunks; spans = a.spans }) (eqb-true _ _ one.0)
    ∙ ap (λ n. record { stride = b.stride; chunk_room = n; span_room = a.span_room; chunks = a.chunks; spans = a.spans }) (eqb-true _ _ two.0)
    ∙ ap (λ n. record { stride = b.stride; chunk_room = b.chunk_room; span_room = n; chunks = a.chunks; spans = a.spans }) (eqb-true _ _ three.0)
    ∙ ap (λ n. record { stride = b.stride; chunk_room = b.chunk_room; span_room = b.span_room; chunks = n; spans = a.spans }) (eqb-true _ _ four.0)
    ∙ ap (λ n. record { stride = b.stride; chunk_room = b.chunk_room; span_room = b.span_room; chunks = b.chunks; spans = n }) (eqb-true _ _ four.1)
