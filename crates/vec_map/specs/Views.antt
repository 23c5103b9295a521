-- A map that is lent to be read.
use Rattle.vec_map.specs.declared.view.MapView.{MapView}
use Rattle.vec_map.specs.Maps.{Map}

-- the map that a view shows
abbrev pub view_map : {K V : Type 0} → MapView K V → Map K V
view_map v = record { entries = v.entries.now; deduped = v.deduped }
