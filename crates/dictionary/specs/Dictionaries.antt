-- A dictionary: a list of texts, none twice. A text's number is its place in the list.
use Rattle.std.specs.Prelude.{ℕ, ◌+◌, Bool, true, cond, not, ◌&&◌, ◌||◌, List, [], ◌∷◌, ◌++◌, map, length, sum_by, is_some, Some, None, Option, nat_le, nat_lt, slice_index_or}
use Rattle.std.specs.Str.{bytes_eq}
use Rattle.texts.specs.declared.stock.Text.{Text}
use Rattle.texts.specs.declared.stock.StockFault.{StockFault}
use Rattle.texts.specs.declared.stock.WellKnown.{WellKnown}
use Rattle.texts.specs.declared.stock.WellKnown.TheVariants.{TopLevel}
use Rattle.texts.specs.Outcomes.{Outcome}
use Rattle.texts.specs.Outcomes.Outcome.{taken, refused}
use Rattle.dictionary.specs.Places.{last_place}
use Rattle.texts.specs.Stocks.{Texts, well_known, spelling, longest, fault_of_put}

-- the most entries
abbrev pub most_entries : ℕ
most_entries = 65536

-- the bytes of all texts together
abbrev pub total : List (List ℕ) → ℕ
total ts = sum_by length ts

-- the place of the text that has these bytes
abbrev pub place_of : List (List ℕ) → List ℕ → Option ℕ
place_of ts bs = last_place (λ t. bytes_eq t bs) ts

-- no bytes stand twice
abbrev pub apart : List (List ℕ) → Bool
apart [] = true
apart (t ∷ ts) = not (is_some (place_of ts t)) && apart ts

-- the places of the well-known texts
abbrev pub entry_held : WellKnown → Text
entry_held TopLevel = record { number = 0 }

-- what a dictionary begins with: the well-known texts, in their order
abbrev pub first_entries : List (List ℕ)
first_entries = map spelling well_known

abbrev pub dictionary_texts : List (List ℕ) → Texts
dictionary_texts ts = record { known = λ t. nat_lt t.number (length ts); bytes = λ t. slice_index_or ts t.number []; held = entry_held }

-- whether `len` new bytes fit beside `used` bytes in `count` entries: not too long, an entry free, and as many bytes free as they are
abbrev pub fits_beside : ℕ → ℕ → ℕ → ℕ → ℕ → Bool
fits_beside limit entries used count len = nat_le len longest && (nat_lt count entries && nat_le (used + len) limit)

abbrev pub fits_in : ℕ → ℕ → List (List ℕ) → List ℕ → Bool
fits_in limit entries ts bs = fits_beside limit entries (total ts) (length ts) (length bs)

-- whether a dictionary of at most `limit` bytes and `entries` entries takes these bytes: it holds them, or they fit
abbrev pub dictionary_room : ℕ → ℕ → List (List ℕ) → List ℕ → Bool
dictionary_room limit entries ts bs = is_some (place_of ts bs) || fits_in limit entries ts bs

abbrev pub put_at : ℕ → ℕ → List (List ℕ) → List ℕ → Option ℕ → Outcome (List (List ℕ)) Text StockFault
put_at limit entries ts bs (Some i) = taken ts (record { number = i })
put_at limit entries ts bs None = cond (fits_in limit entries ts bs) (taken (ts ++ bs ∷ []) (record { number = length ts })) (refused (fault_of_put (length bs)))

-- a put of bytes that are held answers their place, and changes nothing; new bytes become one entry more
abbrev pub dictionary_put : ℕ → ℕ → List (List ℕ) → List ℕ → Outcome (List (List ℕ)) Text StockFault
dictionary_put limit entries ts bs = put_at limit entries ts bs (place_of ts bs)
