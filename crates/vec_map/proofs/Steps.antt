-- What stands at a place of a list, or that nothing does.
use Rattle.std.proofs.Common.{◌≡◌, ℕ, ◌<◌, ◌≤◌, List, length, get_or, Some, None, sym, refl}
use Rattle.std.proofs.lemmas.Option.{slice_get_read, slice_get_past}
use Rattle.vec_map.specs.Entries.{entry_at}

pub entry_found : {X : Type 0} (xs : List X) (i : ℕ) (x : X) → i < length xs → x ≡ get_or xs i x → Some x ≡ entry_at xs i
entry_found xs i x lt read = sym (slice_get_read xs (length xs) i x refl lt read)

pub entry_missed : {X : Type 0} (xs : List X) (i : ℕ) → length xs ≤ i → None ≡ entry_at xs i
entry_missed xs i le = sym (slice_get_past xs i le)
