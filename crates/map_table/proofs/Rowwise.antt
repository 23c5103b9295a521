-- The maps of the rows, where a row is read, edited, added or taken away.
use Rattle.std.proofs.Common.{All, ◌≡◌, ℕ, zero, suc, ◌+◌, ◌*◌, ◌<◌, ◌≤◌, true, leb, List, [], ◌∷◌, ◌++◌, length, get_or, take, drop, set, sym, refl, ap, ◌∙◌, subst, suc-mul, zero-mul, arith}
use Rattle.std.proofs.lemmas.List.{length-drop, take-append-le, drop-append-le, drop_at, drop-drop, drop-take, take-take, nil_from_length}
use Rattle.std.proofs.lemmas.List.Elements.{All-set, All-push, All-take}
use Rattle.std.proofs.lemmas.List.Sums.{AllPass-from_list_all, list_all-from_AllPass}
use Rattle.std.proofs.lemmas.Bool.{and_parts, leb-true, le-leb}
use Rattle.texts.specs.declared.stock.Text.{Text}
use Rattle.vec_map.specs.declared.entry.Entry.{Entry}
use Rattle.map_table.specs.declared.rows.Row.{Row}
use Rattle.vec_map.specs.Maps.{Map}
use Rattle.map_table.specs.Edits.{row_map}
use Rattle.map_table.specs.Tables.{rows_fit, maps_in}
use Rattle.map_table.proofs.Stretches.{with_stretch, stretch_front, stretch_cut}

-- rows that fit
module _ (st : ℕ) where
  abbrev Fits : Row → Type 0
  Fits r = leb r.len st ≡ true

  fits_each : (rs : List Row) → rows_fit st rs ≡ true → All Fits rs
  fits_each rs = AllPass-from_list_all (λ r. leb r.len st) rs

  fits_from : (rs : List Row) → All Fits rs → rows_fit st rs ≡ true
  fits_from rs = list_all-from_AllPass (λ r. leb r.len st) rs

  fits_first : (r : Row) (rs : List Row) → rows_fit st (r ∷ rs) ≡ true → r.len ≤ st
  fits_first r rs h = leb-true r.len st (and_parts (leb r.len st) (rows_fit st rs) h).0

  fits_rest : (r : Row) (rs : List Row) → rows_fit st (r ∷ rs) ≡ true → rows_fit st rs ≡ true
  fits_rest r rs h = (and_parts (leb r.len st) (rows_fit st rs) h).1

  -- a row that was read
  pub fits_read : (rs : List Row) (i : ℕ) (r : Row) → r ≡ get_or rs i r → i < length rs → rows_fit st rs ≡ true → r.len ≤ st
  fits_read rs i r read lt h = subst (λ x. x.len ≤ st) (sym read) (leb-true _ _ (fits_each rs h i r lt))

  pub fits_set : (rs : List Row) (i : ℕ) (n : Row) → n.len ≤ st → rows_fit st rs ≡ true → rows_fit st (set rs i n) ≡ true
  fits_set rs i n le h = fits_from (set rs i n) (All-set Fits rs i n (le-leb n.len st le) (fits_each rs h))

  pub fits_push : (rs : List Row) (n : Row) → n.len ≤ st → rows_fit st rs ≡ true → rows_fit st (rs ++ (n ∷ [])) ≡ true
  fits_push rs n le h = fits_from (rs ++ (n ∷ [])) (All-push Fits rs n (fits_each rs h) (le-leb n.len st le))

  pub fits_take : (k : ℕ) (rs : List Row) → rows_fit st rs ≡ true → rows_fit st (take k rs) ≡ true
  fits_take k rs h = fits_from (take k rs) (All-take Fits k rs (fits_each rs h))

module _ {V : Type 0} (st : ℕ) where
  pub length-maps : (es : List (Entry Text V)) (rs : List Row) → length (maps_in st es rs) ≡ length rs
  length-maps es [] = refl
  length-maps es (r ∷ rs) = ap suc (length-maps (drop st es) rs)

  -- the map at a place is over the places of its row
  pub maps_at : (es : List (Entry Text V)) (rs : List Row) (i start : ℕ) (d : Map Text V) (r : Row) → start ≡ i * st → i < length rs → rows_fit st rs ≡ true → get_or (maps_in st es rs) i d ≡ row_map (take st (drop start es)) (get_or rs i r)
  maps_at es [] i start d r is lt h = absurd (omega arith)
  maps_at es (x ∷ rs) zero start d r is lt h =
      let z : start ≡ 0 = is ∙ zero-mul st in
      ap (λ es'. record { entries = es'; deduped = x.deduped }) (sym (take-take x.len st es (fits_first st x rs h)))
      ∙ ap (λ n. row_map (take st (drop n es)) x) (sym z)
  maps_at es (x ∷ rs) (suc i) start d r is lt h =
      let next : start ≡ st + i * st = omega (arith, suc-mul i st) in
      maps_at (drop st es) rs i (i * st) d r refl (omega arith) (fits_rest st x rs h)
      ∙ ap (λ es'. row_map (take st es') (get_or rs i r)) (drop-drop (i * st) st es)
      ∙ ap (λ n. row_map (take st (drop n es)) (get_or rs i r)) (sym next)

  -- other places and another row in the table
  pub maps-set : (es zs : List (Entry Text V)) (rs : List Row) (i start : ℕ) (n : Row) → start ≡ i * st → start + st ≤ length es → rows_fit st rs ≡ true → n.len ≤ st → length zs ≡ st → maps_in st (with_stretch es start st zs) (set rs i n) ≡ set (maps_in st es rs) i (row_map zs n)
  maps-set es zs [] i start n is fits h le long = refl
  maps-set es zs (x ∷ rs) zero start n is fits h le long =
      let z : start ≡ 0 = is ∙ zero-mul st in
      ap (λ m. maps_in st (with_stretch es m st zs) (n ∷ rs)) z
      ∙ ap (λ es'. record { entries = es'; deduped = n.deduped } ∷ maps_in st (drop st (zs ++ drop st es)) rs) (take-append-le n.len zs (drop st es) (omega arith))
      ∙ ap (λ es'. row_map zs n ∷ maps_in st es' rs) (drop_at zs (drop st es) st long)
  maps-set es zs (x ∷ rs) (suc i) start n is fits h le long =
      let next : start ≡ st + i * st = omega (arith, suc-mul i st) in
      let low = fits_first st x rs h in
      ap (λ es'. record { entries = es'; deduped = x.deduped } ∷ maps_in st (drop st (with_stretch es start st zs)) (set rs i n)) (stretch_front es zs start st fits long x.len (omega arith))
      ∙ ap (λ es'. row_map es x ∷ maps_in st es' (set rs i n)) (stretch_cut es zs start st fits long st (i * st) next)
      ∙ ap (λ ms. row_map es x ∷ ms) (maps-set (drop st es) zs rs i (i * st) n refl (omega (arith, length-drop st es)) (fits_rest st x rs h) le long)

  -- one row more
  pub maps-push : (es ws : List (Entry Text V)) (rs : List Row) (n : Row) → length es ≡ length rs * st → rows_fit st rs ≡ true → maps_in st (es ++ ws) (rs ++ (n ∷ [])) ≡ maps_in st es rs ++ (row_map ws n ∷ [])
  maps-push es ws [] n whole h =
      let z : length es ≡ 0 = whole ∙ zero-mul st in
      ap (λ es'. maps_in st (es' ++ ws) (n ∷ [])) (nil_from_length es z)
  maps-push es ws (x ∷ rs) n whole h =
      let next : length es ≡ length rs * st + st = whole ∙ suc-mul (length rs) st in
      let low = fits_first st x rs h in
      ap (λ es'. record { entries = es'; deduped = x.deduped } ∷ maps_in st (drop st (es ++ ws)) (rs ++ (n ∷ []))) (take-append-le x.len es ws (omega arith))
      ∙ ap (λ es'. row_map es x ∷ maps_in st es' (rs ++ (n ∷ []))) (drop-append-le st es ws (omega arith))
      ∙ ap (λ ms. row_map es x ∷ ms) (maps-push (drop st es) ws rs n (omega (arith, length-drop st es)) (fits_rest st x rs h))

  -- the first rows alone
  pub maps-take : (es : List (Entry Text V)) (rs : List Row) (k : ℕ) → rows_fit st rs ≡ true → maps_in st (take (k * st) es) (take k rs) ≡ take k (maps_in st es rs)
  maps-take es rs zero h = refl
  maps-take es [] (suc k) h = refl
  maps-take es (x ∷ rs) (suc k) h =
      let next : suc k * st ≡ st + k * st = omega (arith, suc-mul k st) in
      let low = fits_first st x rs h in
      ap (λ n. maps_in st (take n es) (x ∷ take k rs)) next
      ∙ ap (λ es'. record { entries = es'; deduped = x.deduped } ∷ maps_in st (drop st (take (st + k * st) es)) (take k rs)) (take-take x.len (st + k * st) es (omega arith))
      ∙ ap (λ es'. row_map es x ∷ maps_in st es' (take k rs)) (drop-take st (k * st) es)
      ∙ ap (λ ms. row_map es x ∷ ms) (maps-take (drop st es) rs k (fits_rest st x rs h))
