-- A call on one of the two tables, as a call on both.
use Rattle.std.proofs.Common.{◌≡◌, ℕ, Bool, true, false, cond, ◌&&◌, List, [], ◌∷◌, map, Some, Result, refl, sym, ap, ◌∙◌, subst}
use Rattle.texts.specs.declared.stock.Text.{Text}
use Rattle.texts.specs.Outcomes.{carry, at_place, Came}
use Rattle.texts.specs.Outcomes.Outcome.{taken, refused}
use Rattle.texts.specs.Stocks.{Texts, same_text}
use Rattle.vec_map.specs.declared.fault.MapFault.{MapFault}
use Rattle.vec_map.specs.declared.fault.MapFault.TheVariants.{NoPlace, Twice}
use Rattle.vec_map.specs.Entries.{distinct}
use Rattle.vec_map.specs.Maps.{Map, claimed}
use Rattle.map_table.specs.declared.table.MapTable.{MapTable}
use Rattle.map_table.specs.declared.table.edits.Edit.{Edit}
use Rattle.map_table.specs.declared.table.edits.Edit.TheVariants.{Insert, Remove, Dedup, Claim}
use Rattle.map_table.specs.Edits.{edit_on}
use Rattle.map_table.specs.Rows.{maps_of, ShapeStays}
use Rattle.span.specs.declared.owner.Owner.{Owner}
use Rattle.span.specs.declared.owner.Owner.TheVariants as at
use Rattle.span.specs.declared.value.Value.{Value}
use Rattle.span.specs.Edits.{edit_maps}
use Rattle.span.specs.Model.{Maps}
use Rattle.span.specs.Tables.{with_chunks, with_spans, edit_owner}
use Rattle.span.proofs.Carried.{carry-carry, at_map, came_carried, came_as}
use Rattle.v1.specs.Shown.{v1_view}
use Rattle.v1.specs.Tables.{single, v1_table}

-- an edit of a list of one map is the edit of that map
edit_single : (same : Text → Text → Bool) (stride : ℕ) (e : Edit Value) (m : Map Text Value) → edit_maps same stride (λ v. Some 0) e (single m) ≡ carry single (edit_on same stride e m)
edit_single same stride (Insert k v) m = refl
edit_single same stride (Remove k) m = refl
edit_single same stride Dedup m = refl
edit_single same stride Claim m = claims (distinct same m.entries) where
  claims : (b : Bool) → cond (b && true) (taken (claimed m ∷ []) tt) (refused Twice) ≡ carry {R = Unit {0}} {F = MapFault} single (cond b (taken (claimed m) tt) (refused Twice))
  claims true = refl
  claims false = refl

-- an edit of the map at a place, in a whole that has the list of rows
pub edited_single : {W : Type 0} (f : List Maps → W) (same : Text → Text → Bool) (stride : ℕ) (e : Edit Value) (ms : List (Map Text Value)) (p : ℕ)
    → carry f (at_place NoPlace (edit_maps same stride (λ v. Some 0) e) (map single ms) p) ≡ carry (λ xs. f (map single xs)) (at_place NoPlace (edit_on same stride e) ms p)
edited_single f same stride e ms p =
    ap (carry f) (at_map single NoPlace (edit_on same stride e) (edit_maps same stride (λ v. Some 0) e) (edit_single same stride e) ms p)
    ∙ carry-carry f (map single) (at_place NoPlace (edit_on same stride e) ms p)

-- the two tables where the chunks' is another of the same shape
module _ (ss cs cs' : MapTable Value) (shape : ShapeStays cs cs') (r : Result (Unit {0}) MapFault) where
  chunks-after : v1_table ss cs' ≡ with_chunks (v1_table ss cs) (map single (maps_of cs'))
  chunks-after =
      ap (λ n. record { stride = n; chunk_room = cs'.room; span_room = ss.room; chunks = map single (maps_of cs'); spans = map single (maps_of ss) }) shape.stride
      ∙ ap (λ n. record { stride = cs.stride; chunk_room = n; span_room = ss.room; chunks = map single (maps_of cs'); spans = map single (maps_of ss) }) shape.room

  pub chunk_edited : (s : Texts) (e : Edit Value) (o : Owner) (p : ℕ) → o ≡ at.Chunk p → Came (at_place NoPlace (edit_on (same_text s) cs.stride e) (maps_of cs) p) (maps_of cs) (maps_of cs') r
      → Came (edit_owner v1_view s e o (v1_table ss cs)) (v1_table ss cs) (v1_table ss cs') r
  chunk_edited s e o p is came =
      subst (λ w. Came (edit_owner v1_view s e w (v1_table ss cs)) (v1_table ss cs) (v1_table ss cs') r) (sym is)
      (came_as _ _ _ _ _ chunks-after
      (came_carried (λ xs. with_chunks (v1_table ss cs) (map single xs)) (at_place NoPlace (edit_on (same_text s) cs.stride e) (maps_of cs) p) _ (maps_of cs) (maps_of cs') r
      (edited_single (with_chunks (v1_table ss cs)) (same_text s) cs.stride e (maps_of cs) p) came))

-- the same where the spans' is another
module _ (ss cs ss' : MapTable Value) (shape : ShapeStays ss ss') (r : Result (Unit {0}) MapFault) where
  spans-after : v1_table ss' cs ≡ with_spans (v1_table ss cs) (map single (maps_of ss'))
  spans-after = ap (λ n. record { stride = cs.stride; chunk_room = cs.room; span_room = n; chunks = map single (maps_of cs); spans = map single (maps_of ss') }) shape.room

  pub span_edited : (s : Texts) (e : Edit Value) (o : Owner) (p : ℕ) → o ≡ at.Span p → ss.stride ≡ cs.stride → Came (at_place NoPlace (edit_on (same_text s) ss.stride e) (maps_of ss) p) (maps_of ss) (maps_of ss') r
      → Came (edit_owner v1_view s e o (v1_table ss cs)) (v1_table ss cs) (v1_table ss' cs) r
  span_edited s e o p is alike came =
      subst (λ w. Came (edit_owner v1_view s e w (v1_table ss cs)) (v1_table ss cs) (v1_table ss' cs) r) (sym is)
      (came_as _ _ _ _ _ spans-after
      (came_carried (λ xs. with_spans (v1_table ss cs) (map single xs)) (at_place NoPlace (edit_on (same_text s) cs.stride e) (maps_of ss) p) _ (maps_of ss) (maps_of ss') r
      (edited_single (with_spans (v1_table ss cs)) (same_text s) cs.stride e (maps_of ss) p)
      (subst (λ n. Came (at_place NoPlace (edit_on (same_text s) n e) (maps_of ss) p) (maps_of ss) (maps_of ss') r) alike came)))
