-- A map over a lent slice: its entries are the first of the slice.
use Rattle.std.specs.Prelude.{◌≡◌, max, length, take, drop, Result}
use Rattle.texts.specs.Outcomes.{Outcome, leaves, answers}
use Rattle.vec_map.specs.declared.fault.MapFault.{MapFault}
use Rattle.vec_map.specs.declared.map.VecMap.{VecMap}
use Rattle.vec_map.specs.Maps.{Map}

-- the map that a VecMap is
abbrev pub map_of : {K V : Type 0} → VecMap K V → Map K V
map_of m = record { entries = take m.len m.entries.now; deduped = m.deduped }

-- places past both lengths are as they were
abbrev pub BeyondStays : {K V : Type 0} → VecMap K V → VecMap K V → Type 0
BeyondStays m n =
    drop (max (length (map_of m).entries) (length (map_of n).entries)) n.entries.now ≡ drop (max (length (map_of m).entries) (length (map_of n).entries)) m.entries.now

-- from m to n: n is this map over the same lent slice, and no place past both lengths changed; so what is left open is only what lies between a shorter map and the end of the longer one before it
pub record Became {K V : Type 0} (m n : VecMap K V) (to : Map K V) : Type 0 where
  pub lends : n.entries.ghost_name ≡ m.entries.ghost_name
  pub map : map_of n ≡ to
  pub beyond : BeyondStays m n

-- a call with this outcome turned m into n and answered r
pub record Worked {K V R : Type 0} (o : Outcome (Map K V) R MapFault) (m n : VecMap K V) (r : Result R MapFault) : Type 0 where
  pub told : r ≡ answers o
  pub left : Became m n (leaves (map_of m) o)
