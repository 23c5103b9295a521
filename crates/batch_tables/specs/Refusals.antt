-- The refusals of a batch, each by its number, its layer and its place.
use Rattle.std.specs.Prelude.{ℕ}
use Rattle.texts.specs.declared.refusal.Layer.TheVariants as layer
use Rattle.texts.specs.declared.refusal.Refusal.{Refusal}
use Rattle.texts.specs.Refusals.{stock_refusal}
use Rattle.vec_map.specs.declared.fault.MapFault.{MapFault}
use Rattle.vec_map.specs.declared.fault.MapFault.TheVariants as of
use Rattle.batch_tables.specs.declared.fault.BatchFault.{BatchFault}
use Rattle.batch_tables.specs.declared.fault.BatchFault.TheVariants.{Broken, Stride, NoChunk, NoSpan, NoRoot, Full, Stock, Map}

abbrev pub of_batch : ℕ → ℕ → Refusal
of_batch number place = record { number = number; layer = layer.Batch; place = place }

-- a map's refusal has the place of the span or chunk that has the map; a stock's is carried whole
abbrev pub of_map : ℕ → MapFault → Refusal
of_map place (of.Stock f) = stock_refusal f
of_map place of.Lacks = record { number = 7; layer = layer.Map; place = place }
of_map place of.Full = record { number = 8; layer = layer.Map; place = place }
of_map place of.NoPlace = record { number = 8; layer = layer.Map; place = place }
of_map place of.Twice = record { number = 9; layer = layer.Map; place = place }

-- 1: the tables do not hold together; 2: no such stride; 3: no such chunk or span; 4: a root of an empty chunk; 5: no room
abbrev pub batch_refusal : BatchFault → Refusal
batch_refusal Broken = of_batch 1 0
batch_refusal Stride = of_batch 2 0
batch_refusal (NoChunk place) = of_batch 3 place
batch_refusal (NoSpan place) = of_batch 3 place
batch_refusal (NoRoot place) = of_batch 4 place
batch_refusal Full = of_batch 5 0
batch_refusal (Stock f) = stock_refusal f
batch_refusal (Map place f) = of_map place f
