-- A worked example: of two entries with one key, the last one counts.
use Rattle.std.specs.Prelude.{◌≡◌, ℕ, true, false, [], ◌∷◌, nat_eq}
use Rattle.vec_map.specs.declared.entry.Entry.{Entry}
use Rattle.vec_map.specs.Maps.{Map, tidied}

abbrev pub entered : ℕ → ℕ → Entry ℕ ℕ
entered k v = record { key = k; value = v }

-- a = 1, b = 2, a = 3, where 97 stands for a and 98 for b
abbrev pub thrice : Map ℕ ℕ
thrice = record { entries = entered 97 1 ∷ (entered 98 2 ∷ (entered 97 3 ∷ [])); deduped = false }

-- a dedup leaves a = 3, b = 2
abbrev pub LastWins : Type 0
LastWins = tidied nat_eq thrice ≡ record { entries = entered 97 3 ∷ (entered 98 2 ∷ []); deduped = true }
