-- What is read of a row of one map.
use Rattle.std.proofs.Common.{◌≡◌, ℕ, zero, suc, ◌<◌, List, [], ◌∷◌, map, None, sym, refl, ap, ◌∙◌, arith}
use Rattle.texts.specs.declared.stock.Text.{Text}
use Rattle.vec_map.specs.Entries.{entry_at}
use Rattle.vec_map.specs.Maps.{Map}
use Rattle.map_table.specs.declared.table.MapTable.{MapTable}
use Rattle.map_table.specs.Rows.{maps_of}
use Rattle.span.specs.declared.owner.Owner.{Owner}
use Rattle.span.specs.declared.owner.Owner.TheVariants as at
use Rattle.span.specs.declared.value.Value.{Value}
use Rattle.span.specs.Readings.{maps_at}
use Rattle.span.specs.Tables.{Table, owner_map, owner_maps}
use Rattle.v1.specs.Tables.{single, v1_table}

-- the first map of a row is the map, and there is no other
pub first-single : (ms : List (Map Text Value)) (p : ℕ) → entry_at (maps_at (map single ms) p) 0 ≡ entry_at ms p
first-single [] p = refl
first-single (m ∷ ms) zero = refl
first-single (m ∷ ms) (suc p) = first-single ms p

pub other_single : (ms : List (Map Text Value)) (p which : ℕ) → 0 < which → entry_at (maps_at (map single ms) p) which ≡ None
other_single [] p which lt = refl
other_single (m ∷ ms) zero zero lt = absurd (omega arith)
other_single (m ∷ ms) zero (suc which) lt = refl
other_single (m ∷ ms) (suc p) which lt = other_single ms p which lt

-- an owner has its row's map as the first, and no other
pub owner_single : (t : Table) (o : Owner) (ms : List (Map Text Value)) (p which : ℕ) → which ≡ 0 → owner_maps o t ≡ maps_at (map single ms) p → entry_at ms p ≡ owner_map o which t
owner_single t o ms p which first is = sym (ap (λ xs. entry_at xs which) is ∙ ap (entry_at (maps_at (map single ms) p)) first ∙ first-single ms p)

pub owner_other : (ss cs : MapTable Value) (o : Owner) (which : ℕ) → 0 < which → None ≡ owner_map o which (v1_table ss cs)
owner_other ss cs (at.Span p) which lt = sym (other_single (maps_of ss) p which lt)
owner_other ss cs (at.Chunk p) which lt = sym (other_single (maps_of cs) p which lt)
