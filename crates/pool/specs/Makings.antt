-- What making a pool gives.
use Rattle.std.specs.Prelude.{◌≡◌, ℕ, ◌<◌, ◌≤◌, min, length, Ok, Err, vec_items, Result}
use Rattle.texts.specs.declared.refusal.Unmade.{Unmade}
use Rattle.texts.specs.declared.refusal.Unmade.TheVariants.{Refused, Memory}
use Rattle.texts.specs.declared.stock.StockFault.{StockFault}
use Rattle.texts.specs.declared.stock.StockFault.TheVariants.{NoSpace}
use Rattle.texts.specs.Stocks.{most_bytes}
use Rattle.pool.specs.declared.Pool.{Pool}
use Rattle.pool.specs.Pools.{prelude}

-- a pool of so many bytes holds the well-known texts and nothing else; it is refused exactly where they do not fit, and else there may be no memory
abbrev pub PoolMade : ℕ → Result Pool (Unmade StockFault) → Type 0
PoolMade bytes (Ok p) = (length prelude ≤ bytes) × (p.limit ≡ min bytes most_bytes) × (vec_items p.area ≡ prelude)
PoolMade bytes (Err (Refused f)) = (bytes < length prelude) × (f ≡ NoSpace)
PoolMade bytes (Err Memory) = length prelude ≤ bytes
