-- The refusals of a map, each by its number, its layer and its place. A map alone has the place 0; who holds it knows better.
use Rattle.texts.specs.declared.refusal.Layer.TheVariants.{Map}
use Rattle.texts.specs.declared.refusal.Refusal.{Refusal}
use Rattle.texts.specs.Refusals.{stock_refusal}
use Rattle.vec_map.specs.declared.fault.MapFault.{MapFault}
use Rattle.vec_map.specs.declared.fault.MapFault.TheVariants.{Stock, Lacks, Full, NoPlace, Twice}

-- 7: there is no such map; 8: no entry place is left, or there is none of that number; 9: two entries have one key; a stock's refusal is carried whole
abbrev pub map_refusal : MapFault → Refusal
map_refusal (Stock f) = stock_refusal f
map_refusal Lacks = record { number = 7; layer = Map; place = 0 }
map_refusal Full = record { number = 8; layer = Map; place = 0 }
map_refusal NoPlace = record { number = 8; layer = Map; place = 0 }
map_refusal Twice = record { number = 9; layer = Map; place = 0 }
