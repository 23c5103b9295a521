-- Rows of maps in one table of entries: the row at place p has the entries from p × stride on.
use Rattle.std.specs.Prelude.{◌≡◌, ℕ, ◌+◌, ◌*◌, Bool, ◌&&◌, List, [], ◌∷◌, length, take, drop, ◌==◌, nat_le}
use Rattle.std.specs.List.{list_all}
use Rattle.texts.specs.declared.stock.Text.{Text}
use Rattle.vec_map.specs.declared.entry.Entry.{Entry}
use Rattle.map_table.specs.declared.rows.Row.{Row}
use Rattle.vec_map.specs.Maps.{Map}

-- the most places that a row may have
abbrev pub most_places : ℕ
most_places = 64

-- no row has more entries than the stride
abbrev pub rows_fit : ℕ → List Row → Bool
rows_fit stride rs = list_all (λ r. nat_le r.len stride) rs

-- the entries are just the places of the rows, each of which has no more of them than it has places
abbrev pub parts_fit : {V : Type 0} → ℕ → List (Entry Text V) → List Row → Bool
parts_fit stride es rs = length es == length rs * stride && rows_fit stride rs

-- the maps of the rows, whose entries follow one another by strides
abbrev pub maps_in : {V : Type 0} → ℕ → List (Entry Text V) → List Row → List (Map Text V)
maps_in stride es [] = []
maps_in stride es (r ∷ rs) = record { entries = take r.len es; deduped = r.deduped } ∷ maps_in stride (drop stride es) rs

-- what is kept of a row, of its map
abbrev pub row_of : {K V : Type 0} → Map K V → Row
row_of m = record { len = length m.entries; deduped = m.deduped }

-- no entry outside the stretch of a row changed
pub record OutsideStays {X : Type 0} (stride row : ℕ) (xs ys : List X) : Type 0 where
  pub before : take (row * stride) ys ≡ take (row * stride) xs
  pub after : drop (row * stride + stride) ys ≡ drop (row * stride + stride) xs
