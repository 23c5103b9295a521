-- An edit of one row of the maps, as an edit of the batch.
use Rattle.std.proofs.Common.{◌≡◌, ℕ, zero, suc, ◌<◌, List, [], ◌∷◌, length, Result, sym, refl, ap, ◌∙◌, arith}
use Rattle.texts.specs.Outcomes.{Outcome, Came, carry, leaves, at_place}
use Rattle.texts.specs.Outcomes.Outcome.{taken, refused}
use Rattle.texts.specs.Stocks.{Texts, same_text}
use Rattle.vec_map.specs.declared.fault.MapFault.{MapFault}
use Rattle.vec_map.specs.declared.fault.MapFault.TheVariants.{Stock, NoPlace}
use Rattle.map_table.specs.declared.table.edits.Edit.{Edit}
use Rattle.map_table.proofs.Placed.{leaves-carry}
use Rattle.span.specs.declared.fields.Fields.{Fields}
use Rattle.span.specs.declared.owner.Owner.{Owner}
use Rattle.span.specs.declared.owner.Owner.TheVariants as at
use Rattle.span.specs.declared.value.Value.{Value}
use Rattle.span.specs.Edits.{edit_maps}
use Rattle.span.specs.Model.{Maps}
use Rattle.span.specs.Owners.{owner_place}
use Rattle.span.specs.Tables as table
use Rattle.span.specs.Tables.{Table, shape_of, edit_owner, if_all_known}
use Rattle.span.specs.Views.{Kind, View}
use Rattle.span.specs.Views.Kind.{of_span, of_chunk}
use Rattle.batch_tables.specs.declared.fault.BatchFault.{BatchFault}
use Rattle.batch_tables.specs.declared.fault.BatchFault.TheVariants as fault
use Rattle.batch_tables.specs.declared.limits.ChunkRow.{ChunkRow}
use Rattle.batch_tables.specs.declared.limits.Room.{Room}
use Rattle.batch_tables.specs.Batches.{with_batch, told_as, after, retold, edit_texts, edit_batch}
use Rattle.batch_tables.specs.Flat.{spans_of, chunks_of}
use Rattle.batch_tables.specs.Held.{held, Together}
use Rattle.batch_tables.specs.Limits.{total}
use Rattle.batch_tables.proofs.Flats.{on_span, span_row, chunk_row, span_place}
use Rattle.span.proofs.Carried.{carry-carry}
use Rattle.batch_tables.proofs.Outcomes.{told-carry, after-carry, came_lifted}
use Rattle.batch_tables.proofs.Places.{after-place}

pub length-spans : {O : Type 0} (fs : List (Fields O)) (rows : List Maps) → length (spans_of fs rows) ≡ length fs
length-spans [] rows = refl
length-spans (f ∷ fs) [] = ap suc (length-spans fs [])
length-spans (f ∷ fs) (ms ∷ rows) = ap suc (length-spans fs rows)

module _ {H O : Type 0} (cs : List (ChunkRow H)) (fs : List (Fields O)) (stride : ℕ) (room : Room) where
  module _ (v : View H O) (t : Texts) (e : Edit Value) (T : Table) (p : ℕ) (strides : T.stride ≡ stride) where
    -- the texts come first
    abbrev pub asked : Outcome (Unit {0}) (Unit {0}) MapFault
    asked = told_as Stock (if_all_known t (edit_texts e))

    abbrev pub worked : Kind → ℕ → Maps → Outcome Maps (Unit {0}) MapFault
    worked kind n = edit_maps (same_text t) n (v.home kind) e

    pub edit_span : length T.spans ≡ length fs → total cs ≡ length fs → p < length fs → edit_batch v t e (at.Span p) (held cs fs stride room T) ≡ carry (held cs fs stride room) (told_as (fault.Map p) (after asked (edit_owner v t e (at.Span p) T)))
    edit_span rows counts lt =
        let none = fault.NoSpan p in
        let g = fault.Map p in
        let call : Maps → Outcome Maps (Unit {0}) MapFault = λ m. after asked (worked of_span stride m) in
        let o = at_place NoPlace call T.spans p in
        let h = held cs fs stride room T in
        ap (carry (with_batch h)) (span_place none (on_span none NoPlace g call) cs T.chunks (spans_of fs T.spans) p (counts ∙ sym (length-spans fs T.spans)))
        ∙ ap (λ x. carry (with_batch h) (carry (chunks_of cs T.chunks) x)) (span_row none NoPlace g call fs T.spans p rows (omega arith))
        ∙ ap (carry (with_batch h)) (carry-carry (chunks_of cs T.chunks) (spans_of fs) (told_as g o))
        ∙ carry-carry (with_batch h) (λ rs. chunks_of cs T.chunks (spans_of fs rs)) (told_as g o)
        ∙ sym (carry-carry (held cs fs stride room) (table.with_spans T) (told_as g o))
        ∙ ap (carry (held cs fs stride room)) (sym (told-carry g (table.with_spans T) o))
        ∙ ap (λ x. carry (held cs fs stride room) (told_as g (carry (table.with_spans T) x))) (after-place NoPlace asked (worked of_span stride) T.spans p (omega arith))
        ∙ ap (λ x. carry (held cs fs stride room) (told_as g x)) (sym (after-carry (table.with_spans T) asked (at_place NoPlace (worked of_span stride) T.spans p)))
        ∙ ap (λ n. carry (held cs fs stride room) (told_as g (after asked (carry (table.with_spans T) (at_place NoPlace (worked of_span n) T.spans p))))) (sym strides)

    pub edit_chunk : length T.chunks ≡ length cs → p < length cs → edit_batch v t e (at.Chunk p) (held cs fs stride room T) ≡ carry (held cs fs stride room) (told_as (fault.Map p) (after asked (edit_owner v t e (at.Chunk p) T)))
    edit_chunk rows lt =
        let none = fault.NoChunk p in
        let g = fault.Map p in
        let call : Maps → Outcome Maps (Unit {0}) MapFault = λ m. after asked (worked of_chunk stride m) in
        let o = at_place NoPlace call T.chunks p in
        let h = held cs fs stride room T in
        let ss = spans_of fs T.spans in
        ap (carry (with_batch h)) (chunk_row none NoPlace g call cs T.chunks ss p rows (omega arith))
        ∙ carry-carry (with_batch h) (λ rs. chunks_of cs rs ss) (told_as g o)
        ∙ sym (carry-carry (held cs fs stride room) (table.with_chunks T) (told_as g o))
        ∙ ap (carry (held cs fs stride room)) (sym (told-carry g (table.with_chunks T) o))
        ∙ ap (λ x. carry (held cs fs stride room) (told_as g (carry (table.with_chunks T) x))) (after-place NoPlace asked (worked of_chunk stride) T.chunks p (omega arith))
        ∙ ap (λ x. carry (held cs fs stride room) (told_as g x)) (sym (after-carry (table.with_chunks T) asked (at_place NoPlace (worked of_chunk stride) T.chunks p)))
        ∙ ap (λ n. carry (held cs fs stride room) (told_as g (after asked (carry (table.with_chunks T) (at_place NoPlace (worked of_chunk n) T.chunks p))))) (sym strides)

-- an edit leaves as many rows as there were
first_long : {X R F : Type 0} (x : X) (xs : List X) (o : Outcome X R F) → length (leaves (x ∷ xs) (carry (λ y. y ∷ xs) o)) ≡ suc (length xs)
first_long x xs (taken y a) = refl
first_long x xs (refused e) = refl

place_long : {X R F : Type 0} (none : F) (call : X → Outcome X R F) (xs : List X) (p : ℕ) → length (leaves xs (at_place none call xs p)) ≡ length xs
place_long none call [] p = refl
place_long none call (x ∷ xs) zero = first_long x xs (call x)
place_long none call (x ∷ xs) (suc p) = ap length (leaves-carry (λ ys. x ∷ ys) xs (at_place none call xs p)) ∙ ap suc (place_long none call xs p)

module _ {H O : Type 0} (v : View H O) (t : Texts) (e : Edit Value) (T : Table) where
  edit_shape : (o : Owner) → shape_of (leaves T (edit_owner v t e o T)) ≡ shape_of T
  edit_shape (at.Span p) =
      let call = edit_maps (same_text t) T.stride (v.home of_span) e in
      ap shape_of (leaves-carry (table.with_spans T) T.spans (at_place NoPlace call T.spans p))
      ∙ ap (λ n. record { stride = T.stride; chunk_room = T.chunk_room; span_room = T.span_room; chunks = length T.chunks; spans = n }) (place_long NoPlace call T.spans p)
  edit_shape (at.Chunk p) =
      let call = edit_maps (same_text t) T.stride (v.home of_chunk) e in
      ap shape_of (leaves-carry (table.with_chunks T) T.chunks (at_place NoPlace call T.chunks p))
      ∙ ap (λ n. record { stride = T.stride; chunk_room = T.chunk_room; span_room = T.span_room; chunks = n; spans = length T.spans }) (place_long NoPlace call T.chunks p)

  shape_after : {Y S : Type 0} (k : Outcome Y S MapFault) (o : Outcome Table (Unit {0}) MapFault) → shape_of (leaves T o) ≡ shape_of T → shape_of (leaves T (after k o)) ≡ shape_of T
  shape_after (taken y s) o same = same
  shape_after (refused f) o same = refl

  pub edited_shape : (k : Outcome (Unit {0}) (Unit {0}) MapFault) (o : Owner) (T' : Table) (r : Result (Unit {0}) MapFault) → Came (after k (edit_owner v t e o T)) T T' r → shape_of T' ≡ shape_of T
  edited_shape k o T' r came = ap shape_of came.left ∙ shape_after k (edit_owner v t e o T) (edit_shape o)

-- the owner's place lies within the tables
abbrev pub Within : Owner → ℕ → ℕ → Type 0
Within (at.Span p) chunks spans = p < spans
Within (at.Chunk p) chunks spans = p < chunks

module _ {H O : Type 0} (cs : List (ChunkRow H)) (fs : List (Fields O)) (stride : ℕ) (room reserved : Room) (v : View H O) (t : Texts) (e : Edit Value) (T T' : Table) (one : Together cs fs stride room reserved T) where
  -- an edit of the maps of an owner that stands
  pub edited : (o : Owner) (r : Result (Unit {0}) MapFault) (r' : Result (Unit {0}) BatchFault) → Within o (length cs) (length fs)
      → Came (after (told_as Stock (if_all_known t (edit_texts e))) (edit_owner v t e o T)) T T' r → r' ≡ retold (fault.Map (owner_place o)) r
      → Came (edit_batch v t e o (held cs fs stride room T)) (held cs fs stride room T) (held cs fs stride room T') r'
  edited (at.Span p) r r' within came told =
      came_lifted (held cs fs stride room) (fault.Map p) _ _ T T' r r' (edit_span cs fs stride room v t e T p (ap (λ x. x.stride) one.reach) (ap (λ x. x.spans) one.reach) one.adds within) told came
  edited (at.Chunk p) r r' within came told =
      came_lifted (held cs fs stride room) (fault.Map p) _ _ T T' r r' (edit_chunk cs fs stride room v t e T p (ap (λ x. x.stride) one.reach) (ap (λ x. x.chunks) one.reach) within) told came
