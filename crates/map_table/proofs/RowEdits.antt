-- A call on one row, as a call on the whole table: what it answers, and what it leaves of the maps and of the places.
use Rattle.std.proofs.Common.{◌≡◌, ℕ, suc, ◌+◌, ◌-◌, ◌*◌, ◌<◌, ◌≤◌, true, cond, List, ◌++◌, length, get_or, take, drop, set, replicate, is_ok, Some, None, Result, sym, refl, ap, ◌∙◌, subst, mul-le-mul_right, suc-mul, add-one, arith}
use Rattle.std.proofs.lemmas.List.{length-take, length-drop, length-append, take-take, take-append-le, take_all, drop_all}
use Rattle.std.proofs.lemmas.Bool.{cond-true}
use Rattle.texts.specs.declared.stock.Text.{Text}
use Rattle.texts.specs.Outcomes.{Outcome, leaves, answers, at_place, Came}
use Rattle.texts.specs.Outcomes.Outcome.{refused}
use Rattle.vec_map.specs.declared.entry.Entry.{Entry}
use Rattle.map_table.specs.declared.rows.Row.{Row}
use Rattle.vec_map.specs.Entries.{entry_at}
use Rattle.vec_map.specs.Maps.{Map}
use Rattle.map_table.specs.Edits.{row_map}
use Rattle.map_table.specs.Tables.{rows_fit, maps_in, OutsideStays}
use Rattle.map_table.proofs.Placed.{answers_at, leaves_at, none_at}
use Rattle.map_table.proofs.Rowwise.{fits_read, length-maps, maps_at, maps-set}
use Rattle.vec_map.proofs.Steps.{entry_found, entry_missed}
use Rattle.map_table.proofs.Stretches.{with_stretch, stretch_before, stretch_after}

-- the places of a row lie within those of the table
pub row_within : (i n st : ℕ) → i < n → i * st + st ≤ n * st
row_within i n st lt = omega (arith, suc-mul i st, mul-le-mul_right {m = suc i} {n = n} st (omega arith))

pub one_more : (n st : ℕ) → (n + 1) * st ≡ n * st + st
one_more n st = ap (λ k. k * st) (add-one n) ∙ suc-mul n st

-- a list that grew by so many of one element
pub grown : {X T E : Type 0} (r : Result T E) (xs ys : List X) (n k : ℕ) (x : X) → is_ok r ≡ true → length xs ≤ n → ys ≡ cond (is_ok r) (take n xs ++ replicate k x) xs → ys ≡ xs ++ replicate k x
grown {X} r xs ys n k x ok le is = is ∙ cond-true (is_ok r) _ _ ok ∙ ap (λ zs. zs ++ replicate k x) (take_all n xs le)

-- what stands where no entry was written yet
abbrev pub filler_entry : {V : Type 0} → V → Entry Text V
filler_entry v = record { key = record { number = 0 }; value = v }

-- what is left where a row's places are as they were
pub outside_same : {X : Type 0} (st i : ℕ) (xs : List X) → OutsideStays st i xs xs
outside_same st i xs = record { before = refl; after = refl }

pub outside_stretch : {X : Type 0} (st i start : ℕ) (xs zs : List X) → start ≡ i * st → start + st ≤ length xs → length zs ≡ st → OutsideStays st i xs (with_stretch xs start st zs)
outside_stretch {X} st i start xs zs is fits long =
    subst (λ s. OutsideStays st i xs (with_stretch xs s st zs)) (sym is)
    record { before = stretch_before xs zs (i * st) st (omega arith) long; after = stretch_after xs zs (i * st) st (omega arith) long }

pub outside_push : {X : Type 0} (st i : ℕ) (xs ws : List X) → length xs ≡ i * st → length ws ≡ st → OutsideStays st i xs (xs ++ ws)
outside_push {X} st i xs ws whole long = record {
  before = take-append-le (i * st) xs ws (omega arith);
  after = drop_all (i * st + st) (xs ++ ws) (omega (arith, length-append xs ws)) ∙ sym (drop_all (i * st + st) xs (omega arith));
}

module _ {V : Type 0} (st : ℕ) (es : List (Entry Text V)) (rs : List Row) (i start : ℕ) (is : start ≡ i * st) (fits : start + st ≤ length es) (lt : i < length rs) (fit : rows_fit st rs ≡ true) where
  -- the map at a place, by its row
  pub row_at : (r : Row) → r ≡ get_or rs i r → (d : Map Text V) → get_or (maps_in st es rs) i d ≡ row_map (take st (drop start es)) r
  row_at r read d = maps_at st es rs i start d r is lt fit ∙ ap (row_map (take st (drop start es))) (sym read)

  pub places_long : length (take st (drop start es)) ≡ st
  places_long = omega (arith, length-take st (drop start es), length-drop start es)

module _ {V R F : Type 0} (none : F) (st : ℕ) (es : List (Entry Text V)) (rs : List Row) (i : ℕ) where
  -- a row that is missing
  pub row_missing : (call : Map Text V → Outcome (Map Text V) R F) → length rs ≤ i → at_place none call (maps_in st es rs) i ≡ refused none
  row_missing call le = none_at none call (maps_in st es rs) i (omega (arith, length-maps st es rs))

  -- ps are the places of the row and r what is kept of it, before; zs and n are the same after
  pub row_edited : (start : ℕ) (call : ℕ → Map Text V → Outcome (Map Text V) R F) (r n : Row) (ps zs : List (Entry Text V)) (t : Result R F) → start ≡ i * st → start + st ≤ length es → i < length rs → rows_fit st rs ≡ true
      → r ≡ get_or rs i r → ps ≡ take st (drop start es) → n.len ≤ st → length zs ≡ st
      → t ≡ answers (call (length ps) (row_map ps r)) → row_map zs n ≡ leaves (row_map ps r) (call (length ps) (row_map ps r))
      → Came (at_place none (call st) (maps_in st es rs) i) (maps_in st es rs) (maps_in st (with_stretch es start st zs) (set rs i n)) t
  row_edited start call r n ps zs t is fits lt fit read part le long told left =
      let ms = maps_in st es rs in
      let m = row_map (take st (drop start es)) r in
      let there : i < length ms = omega (arith, length-maps st es rs) in
      let at = row_at st es rs i start is fits lt fit r read m in
      let whole : call (length ps) (row_map ps r) ≡ call st m = ap (λ qs. call (length qs) (row_map qs r)) part ∙ ap (λ k. call k m) (places_long st es rs i start is fits lt fit) in
      record {
        told = told ∙ ap answers whole ∙ ap (λ x. answers (call st x)) (sym at) ∙ sym (answers_at none (call st) ms i m there);
        left =
            maps-set st es zs rs i start n is fits fit le long
            ∙ ap (set ms i) (left ∙ ap (leaves (row_map ps r)) whole ∙ ap (λ qs. leaves (row_map qs r) (call st m)) part)
            ∙ ap (λ x. set ms i (leaves x (call st x))) (sym at)
            ∙ sym (leaves_at none (call st) ms i m there);
      }

module _ {V : Type 0} (st : ℕ) (es : List (Entry Text V)) (rs : List Row) (i : ℕ) where
  -- a row that is read, over places that were lent as ls
  pub row_read : (start : ℕ) (r : Row) (ls : List (Entry Text V)) → start ≡ i * st → start + st ≤ length es → i < length rs → rows_fit st rs ≡ true → r ≡ get_or rs i r → ls ≡ es
      → Some (record { entries = take (start + r.len - start) (drop start ls); deduped = r.deduped }) ≡ entry_at (maps_in st es rs) i
  row_read start r ls is fits lt fit read lent =
      let m = row_map (take st (drop start es)) r in
      let k : start + r.len - start ≡ r.len = omega arith in
      let at = row_at st es rs i start is fits lt fit r read m in
      ap (λ n. Some (record { entries = take n (drop start ls); deduped = r.deduped })) k
      ∙ ap (λ xs. Some (record { entries = take r.len (drop start xs); deduped = r.deduped })) lent
      ∙ ap (λ xs. Some (record { entries = xs; deduped = r.deduped })) (sym (take-take r.len st (drop start es) (fits_read st rs i r read lt fit)))
      ∙ entry_found (maps_in st es rs) i m (omega (arith, length-maps st es rs)) (sym at)

  pub row_unread : length rs ≤ i → None ≡ entry_at (maps_in st es rs) i
  row_unread le = entry_missed (maps_in st es rs) i (omega (arith, length-maps st es rs))
