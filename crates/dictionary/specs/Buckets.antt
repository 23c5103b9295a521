-- How a dictionary finds a text: texts are spread over buckets by their bytes, and each bucket is a chain from its latest text back.
use Rattle.std.specs.Prelude.{◌≡◌, ℕ, ◌+◌, ◌*◌, ◌/◌, ◌%◌, ◌^◌, ◌<◌, Bool, List, [], map, length, get_or, take, drop, fold, None, Option, bit_xor, nat_eq, nat_le, slice_index_or}
use Rattle.std.specs.List.{list_all}
use Rattle.dictionary.specs.declared.slot.Slot.{Slot}
use Rattle.dictionary.specs.Places.{last_place}

-- the bytes of an entry, which lie in the area
abbrev pub slot_bytes : List ℕ → Slot → List ℕ
slot_bytes area s = take s.len (drop s.start area)

abbrev pub held_texts : List ℕ → List Slot → List (List ℕ)
held_texts area slots = map (slot_bytes area) slots

-- every entry lies within so many bytes
abbrev pub slots_within : ℕ → List Slot → Bool
slots_within n ss = list_all (λ s. nat_le (s.start + s.len) n) ss

-- the bytes mixed into one number, one after the other
unfoldable pub mixed : ℕ → List ℕ → ℕ
mixed h bs = fold (λ m b. (bit_xor m b * 1099511628211) % 2 ^ 64) h bs

-- the bucket of a text, of so many
unfoldable pub bucket_of : ℕ → List ℕ → ℕ
bucket_of size bs = (mixed 14695981039346656037 bs / 2 ^ 24) % size

-- the place of the latest text in a bucket
abbrev pub latest : ℕ → ℕ → List (List ℕ) → Option ℕ
latest size b ts = last_place (λ t. nat_eq (bucket_of size t) b) ts

-- each bucket's head is its latest text
abbrev pub HeadsRight : ℕ → List (Option ℕ) → List (List ℕ) → Type 0
HeadsRight size heads ts = (b : ℕ) → b < size → slice_index_or heads b None ≡ latest size b ts

-- each entry is linked to the latest text before it in its bucket
abbrev pub LinksRight : ℕ → List Slot → List (List ℕ) → Type 0
LinksRight size slots ts = (i : ℕ) (d : Slot) → i < length slots → (get_or slots i d).next ≡ latest size (bucket_of size (slice_index_or ts i [])) (take i ts)
