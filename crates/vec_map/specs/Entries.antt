-- A list of entries as a map: the last entry with a key counts. Keys are the same where `same` says so.
use Rattle.std.specs.Prelude.{◌≡◌, ℕ, zero, suc, ◌+◌, ◌<◌, Bool, true, false, cond, not, ◌&&◌, List, [], ◌∷◌, length, drop, Some, None, filter, slice_get, Option}
use Rattle.std.specs.List.{HoldsAt, list_any}
use Rattle.vec_map.specs.declared.entry.Entry.{Entry}

-- some entry has a key that passes the test
abbrev pub holds_by : {K V : Type 0} → (K → Bool) → List (Entry K V) → Bool
holds_by test es = list_any (λ e. test e.key) es

-- the value of the last entry whose key passes the test
abbrev pub read_by : {K V : Type 0} → (K → Bool) → List (Entry K V) → Option V
read_by test [] = None
read_by test (e ∷ es) = cond (holds_by test es) (read_by test es) (cond (test e.key) (Some e.value) None)

-- some entry has the key k
abbrev pub holds_key : {K V : Type 0} → (K → K → Bool) → List (Entry K V) → K → Bool
holds_key same es k = holds_by (λ q. same q k) es

-- what k reads: the value of the last entry with that key
abbrev pub reading : {K V : Type 0} → (K → K → Bool) → List (Entry K V) → K → Option V
reading same es k = read_by (λ q. same q k) es

-- the entries but those of the key k, in their order
abbrev pub without : {K V : Type 0} → (K → K → Bool) → List (Entry K V) → K → List (Entry K V)
without same es k = filter (λ e. not (same e.key k)) es

-- the last entry of each key, in their order
abbrev pub lasts : {K V : Type 0} → (K → K → Bool) → List (Entry K V) → List (Entry K V)
lasts same [] = []
lasts same (e ∷ es) = cond (holds_key same es e.key) (lasts same es) (e ∷ lasts same es)

-- no two entries have one key
abbrev pub distinct : {K V : Type 0} → (K → K → Bool) → List (Entry K V) → Bool
distinct same [] = true
distinct same (e ∷ es) = not (holds_key same es e.key) && distinct same es

-- the entry at i with another value
abbrev pub with_value : {K V : Type 0} → List (Entry K V) → ℕ → V → List (Entry K V)
with_value [] i v = []
with_value (e ∷ es) zero v = record { key = e.key; value = v } ∷ es
with_value (e ∷ es) (suc i) v = e ∷ with_value es i v

-- the key of the entry at i passes the test, and that of no later one does
pub record LastBy {K V : Type 0} (test : K → Bool) (es : List (Entry K V)) (i : ℕ) : Type 0 where
  pub within : i < length es
  pub here : HoldsAt (λ e. test e.key ≡ true) es i
  pub after : holds_by test (drop (i + 1) es) ≡ false

-- the entry at i has the key k, and no later one has it
abbrev pub LastAt : {K V : Type 0} → (K → K → Bool) → List (Entry K V) → K → ℕ → Type 0
LastAt same es k i = LastBy (λ q. same q k) es i

-- the entry at i, if there is one
abbrev pub entry_at : {X : Type 0} → List X → ℕ → Option X
entry_at xs i = slice_get xs i
