-- What making a dictionary gives.
use Rattle.std.specs.Prelude.{◌≡◌, ℕ, ◌≤◌, min, length, Ok, Err, vec_len, Result}
use Rattle.texts.specs.declared.refusal.Unmade.{Unmade}
use Rattle.texts.specs.declared.refusal.Unmade.TheVariants.{Refused, Memory}
use Rattle.texts.specs.declared.stock.StockFault.{StockFault}
use Rattle.texts.specs.declared.stock.StockFault.TheVariants.{NoSpace}
use Rattle.texts.specs.Stocks.{most_bytes}
use Rattle.dictionary.specs.declared.Dictionary.{Dictionary}
use Rattle.dictionary.specs.Dictionaries.{total, most_entries, first_entries}
use Rattle.dictionary.specs.Held.{texts_in}

-- a dictionary of so many bytes and entries holds the well-known texts and nothing else; it is refused exactly where they do not fit, and else there may be no memory
abbrev pub DictionaryMade : ℕ → ℕ → Result Dictionary (Unmade StockFault) → Type 0
DictionaryMade bytes entries (Ok d) =
    (total first_entries ≤ bytes) × (length first_entries ≤ entries) × (d.limit ≡ min bytes most_bytes) × (vec_len d.heads ≡ min entries most_entries) × (texts_in d ≡ first_entries)
DictionaryMade bytes entries (Err (Refused f)) = (total first_entries ≤ bytes → length first_entries ≤ entries → ⊥) × (f ≡ NoSpace)
DictionaryMade bytes entries (Err Memory) = (total first_entries ≤ bytes) × (length first_entries ≤ entries)
