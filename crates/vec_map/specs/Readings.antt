-- What keys read, and what a call does to that.
use Rattle.std.specs.Prelude.{◌≡◌, ℕ, Bool, true, cond, List, Option}
use Rattle.std.specs.Str.{bytes_eq}
use Rattle.texts.specs.declared.stock.Text.{Text}
use Rattle.texts.specs.Stocks.{Texts}
use Rattle.vec_map.specs.declared.entry.Entry.{Entry}
use Rattle.vec_map.specs.Entries.{read_by, reading, distinct}
use Rattle.vec_map.specs.Maps.{Map}

-- what the key with the bytes bs reads
abbrev pub reads : {V : Type 0} → Texts → List (Entry Text V) → List ℕ → Option V
reads t es bs = read_by (λ q. bytes_eq (t.bytes q) bs) es

-- the key k reads as r says, and every other key as before
abbrev pub ReadsWith : {K V : Type 0} → (K → K → Bool) → Map K V → Map K V → K → Option V → Type 0
ReadsWith {K} same m n k r = (q : K) → reading same n.entries q ≡ cond (same k q) r (reading same m.entries q)

-- every key reads as before
abbrev pub ReadsAlike : {K V : Type 0} → (K → K → Bool) → Map K V → Map K V → Type 0
ReadsAlike {K} same m n = (q : K) → reading same n.entries q ≡ reading same m.entries q

-- a flagged map has no key twice
abbrev pub FlagHolds : {K V : Type 0} → (K → K → Bool) → Map K V → Type 0
FlagHolds same m = m.deduped ≡ true → distinct same m.entries ≡ true
