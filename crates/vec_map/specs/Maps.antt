-- A map, what each call makes of one, and when a call is refused.
use Rattle.std.specs.Prelude.{ℕ, Bool, true, false, cond, List, [], ◌∷◌, ◌++◌, reverse, length, nat_lt}
use Rattle.texts.specs.Outcomes.{Outcome}
use Rattle.texts.specs.Outcomes.Outcome.{taken, refused}
use Rattle.vec_map.specs.declared.entry.Entry.{Entry}
use Rattle.vec_map.specs.declared.fault.MapFault.{MapFault}
use Rattle.vec_map.specs.declared.fault.MapFault.TheVariants.{Full, NoPlace, Twice}
use Rattle.vec_map.specs.Entries.{without, lasts, distinct, with_value}

-- a flagged map has been deduped, or is claimed to need no dedup
pub record Map (K V : Type 0) : Type 0 where
  pub entries : List (Entry K V)
  pub deduped : Bool

module _ {K V : Type 0} where
  -- a new map
  abbrev pub blank : Map K V
  blank = record { entries = []; deduped = false }

  -- an insert appends and clears the flag
  abbrev pub inserted : K → V → Map K V → Map K V
  inserted k v m = record { entries = m.entries ++ record { key = k; value = v } ∷ []; deduped = false }

  -- a remove takes out every entry of the key, and keeps order and flag
  abbrev pub removed : (K → K → Bool) → K → Map K V → Map K V
  removed same k m = record { entries = without same m.entries k; deduped = m.deduped }

  -- a dedup leaves the last entry of each key, the latest first, and sets the flag; a flagged map stays
  abbrev pub tidied : (K → K → Bool) → Map K V → Map K V
  tidied same m = cond m.deduped m (record { entries = reverse (lasts same m.entries); deduped = true })

  -- a claim sets the flag
  abbrev pub claimed : Map K V → Map K V
  claimed m = record { entries = m.entries; deduped = true }

  -- a write at a place keeps the key there, and the flag
  abbrev pub rewritten : ℕ → V → Map K V → Map K V
  rewritten i v m = record { entries = with_value m.entries i v; deduped = m.deduped }

  -- a clear takes out every entry, and keeps the flag
  abbrev pub cleared : Map K V → Map K V
  cleared m = record { entries = []; deduped = m.deduped }

  -- an insert wants a free place, of so many in all
  abbrev pub insert_into : ℕ → K → V → Map K V → Outcome (Map K V) (Unit {0}) MapFault
  insert_into places k v m = cond (nat_lt (length m.entries) places) (taken (inserted k v m) tt) (refused Full)

  -- a write wants an entry at its place
  abbrev pub write_into : ℕ → V → Map K V → Outcome (Map K V) (Unit {0}) MapFault
  write_into i v m = cond (nat_lt i (length m.entries)) (taken (rewritten i v m) tt) (refused NoPlace)

  -- a claim wants distinct keys
  abbrev pub claim_on : (K → K → Bool) → Map K V → Outcome (Map K V) (Unit {0}) MapFault
  claim_on same m = cond (distinct same m.entries) (taken (claimed m) tt) (refused Twice)

  -- a call that is never refused
  abbrev pub always : (Map K V → Map K V) → Map K V → Outcome (Map K V) (Unit {0}) MapFault
  always f m = taken (f m) tt
