-- A pool: one run of bytes, to which a put appends. A text's number is where it starts, times 65,536, and its length.
use Rattle.std.specs.Prelude.{ℕ, ◌+◌, ◌*◌, ◌/◌, ◌%◌, Bool, cond, ◌&&◌, List, [], ◌++◌, length, take, drop, nat_le}
use Rattle.texts.specs.declared.stock.Text.{Text}
use Rattle.texts.specs.declared.stock.StockFault.{StockFault}
use Rattle.texts.specs.declared.stock.WellKnown.{WellKnown}
use Rattle.texts.specs.declared.stock.WellKnown.TheVariants.{TopLevel}
use Rattle.texts.specs.Outcomes.{Outcome}
use Rattle.texts.specs.Outcomes.Outcome.{taken, refused}
use Rattle.std.specs.List.{flat_map}
use Rattle.texts.specs.Stocks.{Texts, well_known, spelling, longest, fault_of_put}

-- what a place in the pool counts in a number: more than the longest text has bytes
abbrev pub step : ℕ
step = 65536

abbrev pub start_of : Text → ℕ
start_of t = t.number / step

abbrev pub length_of : Text → ℕ
length_of t = t.number % step

-- the text of so many bytes from a place on
abbrev pub text_at : ℕ → ℕ → Text
text_at start len = record { number = start * step + len }

-- a text is known that lies within the bytes put so far
abbrev pub in_pool : List ℕ → Text → Bool
in_pool area t = nat_le (start_of t + length_of t) (length area)

abbrev pub pool_bytes : List ℕ → Text → List ℕ
pool_bytes area t = cond (in_pool area t) (take (length_of t) (drop (start_of t) area)) []

-- where the well-known texts lie
abbrev pub pool_held : WellKnown → Text
pool_held TopLevel = text_at 0 10

-- what the bytes of a pool begin with: the well-known texts, one after the other
abbrev pub prelude : List ℕ
prelude = flat_map spelling well_known

abbrev pub pool_texts : List ℕ → Texts
pool_texts area = record { known = in_pool area; bytes = pool_bytes area; held = pool_held }

-- whether a pool that uses at most `limit` bytes takes these
abbrev pub pool_room : ℕ → List ℕ → List ℕ → Bool
pool_room limit area bs = nat_le (length bs) longest && nat_le (length area + length bs) limit

-- a put appends, and answers the text that begins where the pool ended
abbrev pub pool_put : ℕ → List ℕ → List ℕ → Outcome (List ℕ) Text StockFault
pool_put limit area bs = cond (pool_room limit area bs) (taken (area ++ bs) (text_at (length area) (length bs))) (refused (fault_of_put (length bs)))
