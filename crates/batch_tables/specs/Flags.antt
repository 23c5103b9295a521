-- That flags are right: a flagged map has no key twice. Every key is a text that the stock knows, so that this outlasts what is put into the stock.
use Rattle.std.specs.Prelude.{◌≡◌, true, Result}
use Rattle.std.specs.List.{AllByRecursion}
use Rattle.texts.specs.declared.stock.Text.{Text}
use Rattle.texts.specs.Outcomes.{Outcome, Came}
use Rattle.texts.specs.Stocks.{Texts, Keeps, same_text}
use Rattle.vec_map.specs.Maps.{Map}
use Rattle.vec_map.specs.Readings.{FlagHolds}
use Rattle.span.specs.declared.value.Value.{Value}
use Rattle.span.specs.Model.{Maps, Chunk, Batch}
use Rattle.batch_tables.specs.declared.fault.BatchFault.{BatchFault}
use Rattle.batch_tables.specs.Batches.{Held}

pub record RightMap (t : Texts) (m : Map Text Value) : Type 0 where
  pub flag : FlagHolds (same_text t) m
  pub known : AllByRecursion (λ e. t.known e.key ≡ true) m.entries

abbrev pub RightMaps : Texts → Maps → Type 0
RightMaps t ms = AllByRecursion (RightMap t) ms

pub record RightChunk {H O : Type 0} (t : Texts) (c : Chunk H O) : Type 0 where
  pub own : RightMaps t c.maps
  pub spans : AllByRecursion (λ s. RightMaps t s.maps) c.spans

abbrev pub FlagsRight : {H O : Type 0} → Texts → Batch H O → Type 0
FlagsRight t b = AllByRecursion (RightChunk t) b

-- a call that finds the flags right leaves them right, whatever was put into the stock since
abbrev pub StayRight : {H O : Type 0} → Texts → Batch H O → Batch H O → Type 0
StayRight t before after = (earlier : Texts) → Keeps earlier t → FlagsRight earlier before → FlagsRight t after

-- a call had this outcome, and left the flags right if it found them right
pub record Works {H O R : Type 0} (t : Texts) (o : Outcome (Held H O) R BatchFault) (before after : Held H O) (r : Result R BatchFault) : Type 0 where
  pub came : Came o before after r
  pub right : StayRight t before.batch after.batch
