-- What a call does to the maps of one span or chunk.
use Rattle.std.specs.Prelude.{ℕ, Bool, true, cond, ◌&&◌, [], ◌∷◌, map, Some, None, Option}
use Rattle.texts.specs.declared.stock.Text.{Text}
use Rattle.texts.specs.Outcomes.{Outcome, at_place}
use Rattle.texts.specs.Outcomes.Outcome.{taken, refused}
use Rattle.vec_map.specs.declared.fault.MapFault.{MapFault}
use Rattle.vec_map.specs.declared.fault.MapFault.TheVariants.{Lacks, Twice}
use Rattle.vec_map.specs.Entries.{distinct}
use Rattle.vec_map.specs.Maps.{Map, removed, tidied, claimed, insert_into}
use Rattle.map_table.specs.declared.table.edits.Edit.{Edit}
use Rattle.map_table.specs.declared.table.edits.Edit.TheVariants.{Insert, Remove, Dedup, Claim}
use Rattle.span.specs.declared.value.Value.{Value}
use Rattle.span.specs.Model.{Maps}

-- an insert goes to the map that the edition has for such a value, and wants a free place there
abbrev pub insert_home : ℕ → Option ℕ → Text → Value → Maps → Outcome Maps (Unit {0}) MapFault
insert_home stride None k v ms = refused Lacks
insert_home stride (Some i) k v ms = at_place Lacks (insert_into stride k v) ms i

-- a change of every map; an owner that has none lacks what is to be changed
abbrev pub each_map : (Map Text Value → Map Text Value) → Maps → Outcome Maps (Unit {0}) MapFault
each_map f [] = refused Lacks
each_map f (m ∷ ms) = taken (f m ∷ map f ms) tt

-- no map has a key twice
abbrev pub all_distinct : (Text → Text → Bool) → Maps → Bool
all_distinct same [] = true
all_distinct same (m ∷ ms) = distinct same m.entries && all_distinct same ms

-- a claim flags all maps or none
abbrev pub claim_all : (Text → Text → Bool) → Maps → Outcome Maps (Unit {0}) MapFault
claim_all same ms = cond (all_distinct same ms) (each_map claimed ms) (refused Twice)

-- what an edit comes to, where a map has so many places and `home` says which map a value goes to
abbrev pub edit_maps : (Text → Text → Bool) → ℕ → (Value → Option ℕ) → Edit Value → Maps → Outcome Maps (Unit {0}) MapFault
edit_maps same stride home (Insert k v) ms = insert_home stride (home v) k v ms
edit_maps same stride home (Remove k) ms = each_map (removed same k) ms
edit_maps same stride home Dedup ms = each_map (tidied same) ms
edit_maps same stride home Claim ms = claim_all same ms
