-- What was done to the rows of the two tables, as what was done to the table of a batch.
use Rattle.std.proofs.Common.{◌≡◌, ℕ, Bool, true, false, cond, ltb, List, [], ◌∷◌, ◌++◌, length, Err, Result, sym, refl, ap, ◌∙◌}
use Rattle.texts.specs.declared.stock.Text.{Text}
use Rattle.texts.specs.Outcomes.{Outcome, Came, leaves, answers, carry, at_place}
use Rattle.texts.specs.Outcomes.Outcome.{taken, refused}
use Rattle.texts.specs.Stocks.{Texts}
use Rattle.vec_map.specs.declared.fault.MapFault.{MapFault}
use Rattle.vec_map.specs.declared.fault.MapFault.TheVariants.{Full}
use Rattle.vec_map.specs.Maps.{Map, blank}
use Rattle.map_table.specs.declared.table.MapTable.{MapTable}
use Rattle.map_table.specs.declared.table.edits.Edit.{Edit}
use Rattle.map_table.specs.Rows.{maps_of, row_added, ShapeStays, RowWorked}
use Rattle.map_table.proofs.Placed.{answers-carry, leaves-carry, length_at}
use Rattle.span.specs.Model.{Maps}
use Rattle.span.specs.Tables.{Table, with_spans}
use Rattle.v04.specs.declared.maps.V04Maps.TheInside.{Inside}
use Rattle.v04.specs.Edits.{both, pair}
use Rattle.v04.specs.Maps.{beside}
use Rattle.v04.specs.Tables.{v04_table, SameRows, row_edited}
use Rattle.v04.proofs.Calls.{answers-both, leaves-both}
use Rattle.v04.proofs.Pairs.{length-beside, beside-more}

-- a table by its parts
abbrev pub table_by : ℕ → ℕ → ℕ → List Maps → List Maps → Table
table_by stride chunk_room span_room chunks spans = record { stride = stride; chunk_room = chunk_room; span_room = span_room; chunks = chunks; spans = spans }

same_table : (stride stride' chunk_room room room' : ℕ) (chunks spans spans' : List Maps) → stride' ≡ stride → room' ≡ room → spans' ≡ spans → table_by stride' chunk_room room' chunks spans' ≡ table_by stride chunk_room room chunks spans
same_table stride stride' chunk_room room room' chunks spans spans' p q r =
    ap (λ n. table_by n chunk_room room' chunks spans') p ∙ ap (λ n. table_by stride chunk_room n chunks spans') q ∙ ap (table_by stride chunk_room room chunks) r

-- what became of the rows of spans is what became of the table
spans-came : (t : Table) (o : Outcome (List Maps) (Unit {0}) MapFault) (stride' room' : ℕ) (spans' : List Maps) (r : Result (Unit {0}) MapFault) → stride' ≡ t.stride → room' ≡ t.span_room → r ≡ answers o → spans' ≡ leaves t.spans o → Came (carry (with_spans t) o) t (table_by stride' t.chunk_room room' t.chunks spans') r
spans-came t o stride' room' spans' r p q told left = record {
  told = told ∙ sym (answers-carry (with_spans t) o);
  left = same_table t.stride stride' t.chunk_room t.span_room room' t.chunks (leaves t.spans o) spans' p q left ∙ sym (leaves-carry (with_spans t) t.spans o);
}

-- a call that was refused leaves the table as it was
pub refused-came : {X : Type 0} (o : Outcome X (Unit {0}) MapFault) (x : X) (why : MapFault) → o ≡ refused why → Came o x x (Err why)
refused-came o x why e = record { told = ap answers (sym e); left = ap (leaves x) (sym e) }

-- a call on a part of the rows, which the rows are made of by f
pub part_came : {X : Type 0} (f : X → List Maps) (x x' : X) (o : Outcome X (Unit {0}) MapFault) (whole : Outcome (List Maps) (Unit {0}) MapFault) (stride stride' chunk_room room room' : ℕ) (chunks : List Maps) (r : Result (Unit {0}) MapFault)
    → whole ≡ carry f o → stride' ≡ stride → room' ≡ room → Came o x x' r
    → Came (carry (with_spans (table_by stride chunk_room room chunks (f x))) whole) (table_by stride chunk_room room chunks (f x)) (table_by stride' chunk_room room' chunks (f x')) r
part_came f x x' o whole stride stride' chunk_room room room' chunks r is p q came =
    spans-came (table_by stride chunk_room room chunks (f x)) whole stride' room' (f x') r p q
    (came.told ∙ sym (answers-carry f o) ∙ ap answers (sym is))
    (ap f came.left ∙ sym (leaves-carry f x o) ∙ ap (leaves (f x)) (sym is))

-- a call on a row leaves as many rows
pub length-came : {X R F : Type 0} (none : F) (call : X → Outcome X R F) (xs xs' : List X) (i : ℕ) (r : Result R F) → Came (at_place none call xs i) xs xs' r → length xs' ≡ length xs
length-came none call xs xs' i r came = ap length came.left ∙ length_at none call xs i

-- the same maps with other tables in them
module _ (m : Inside) (meta : MapTable Text) (metrics : MapTable ℕ) where
  abbrev pub with_tables : Inside
  with_tables = record { meta = meta; metrics = metrics; chunks = m.chunks; chunk_room = m.chunk_room }

  -- the tables have the same rows where both have as many as before, or both as many more
  pub rows-kept : SameRows m → length (maps_of metrics) ≡ length (maps_of meta) → ShapeStays m.meta meta → ShapeStays m.metrics metrics → SameRows with_tables
  rows-kept same paired a b = record {
    paired = paired;
    strides = b.stride ∙ same.strides ∙ sym a.stride;
    rooms = b.room ∙ same.rooms ∙ sym a.room;
    within = same.within;
  }

  -- calls on a row of each table, which are answered alike
  pub both_came : (o : Outcome (List (Map Text Text)) (Unit {0}) MapFault) (p : Outcome (List (Map Text ℕ)) (Unit {0}) MapFault) (i j : ℕ) (r r' : Result (Unit {0}) MapFault) → answers o ≡ answers p
      → RowWorked o i m.meta meta r → RowWorked p j m.metrics metrics r' → Came (carry (with_spans (v04_table m)) (both beside o p)) (v04_table m) (v04_table with_tables) r
  both_came o p i j r r' alike a b =
      spans-came (v04_table m) (both beside o p) _ _ _ _ a.shape.stride a.shape.room
      (a.came.told ∙ sym (answers-both beside o p alike))
      (ap (λ xs. beside xs (maps_of metrics)) a.came.left ∙ ap (beside _) b.came.left ∙ sym (leaves-both beside (maps_of m.meta) (maps_of m.metrics) o p alike))

  -- an edit of a row of each, likewise
  module _ (t : Texts) (e : Edit Text) (e' : Edit ℕ) (i : ℕ) (r : Result (Unit {0}) MapFault) (a : RowWorked (row_edited t e i m.meta) i m.meta meta r) (b : RowWorked (row_edited t e' i m.metrics) i m.metrics metrics r) where
    pub edited-rows : SameRows m → SameRows with_tables
    edited-rows same = rows-kept same (length-came _ _ _ _ _ _ b.came ∙ same.paired ∙ sym (length-came _ _ _ _ _ _ a.came)) a.shape b.shape

    pub edited_came : Came (carry (with_spans (v04_table m)) (both beside (row_edited t e i m.meta) (row_edited t e' i m.metrics))) (v04_table m) (v04_table with_tables) r
    edited_came = both_came _ _ i i r r (sym a.came.told ∙ b.came.told) a b

-- a row more in each table is a span's row more
pub added_alike : (room room' : ℕ) (ms : List (Map Text Text)) (ns : List (Map Text ℕ)) → length ns ≡ length ms → room' ≡ room → answers (row_added room ms) ≡ answers (row_added room' ns)
added_alike room room' ms ns paired rooms = tests (ltb (length ms) room) ∙ ap (λ k. answers (cond (ltb k room) (taken (ns ++ (blank ∷ [])) tt) (refused Full))) (sym paired) ∙ ap (λ k. answers (cond (ltb (length ns) k) (taken (ns ++ (blank ∷ [])) tt) (refused Full))) (sym rooms) where
  tests : (b : Bool) → answers {R = Unit {0}} {F = MapFault} (cond b (taken (ms ++ (blank ∷ [])) tt) (refused Full)) ≡ answers (cond b (taken (ns ++ (blank ∷ [])) tt) (refused Full))
  tests true = refl
  tests false = refl

pub added_both : {W : Type 0} (f : List Maps → W) (room room' : ℕ) (ms : List (Map Text Text)) (ns : List (Map Text ℕ)) → length ns ≡ length ms → room' ≡ room
    → cond (ltb (length (beside ms ns)) room) (taken (f (beside ms ns ++ (pair blank blank ∷ []))) tt) (refused Full) ≡ carry f (both beside (row_added room ms) (row_added room' ns))
added_both {W} f room room' ms ns paired rooms =
    ap (λ k. cond (ltb k room) (taken (f (beside ms ns ++ (pair blank blank ∷ []))) tt) (refused Full)) (length-beside ms ns paired)
    ∙ ap (λ xs. cond (ltb (length ms) room) (taken (f xs) tt) (refused Full)) (sym (beside-more ms ns blank blank paired))
    ∙ tests (ltb (length ms) room)
    ∙ ap (λ k. carry f (both beside (row_added room ms) (cond (ltb k room) (taken (ns ++ (blank ∷ [])) tt) (refused Full)))) (sym paired)
    ∙ ap (λ k. carry f (both beside (row_added room ms) (row_added k ns))) (sym rooms)
  where
    tests : (b : Bool) → ◌≡◌ {A = Outcome W (Unit {0}) MapFault} (cond b (taken (f (beside (ms ++ (blank ∷ [])) (ns ++ (blank ∷ [])))) tt) (refused Full)) (carry f (both beside (cond b (taken (ms ++ (blank ∷ [])) tt) (refused Full)) (cond b (taken (ns ++ (blank ∷ [])) tt) (refused Full))))
    tests true = refl
    tests false = refl
