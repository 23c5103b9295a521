-- Three questions on what a span reads as numbers.
use Rattle.std.specs.Prelude.{Bool, false, ◌||◌, Some, None, Option, Float}
use Rattle.std.specs.Float.Ieee.{eq, le}
use Rattle.numbers.specs.Known.{zero, one}
use Rattle.texts.specs.declared.stock.WellKnown.TheVariants.{TopLevel}
use Rattle.texts.specs.Stocks.{spelling}
use Rattle.span.specs.declared.key.Key.TheVariants.{TracerTopLevel, Measured, PartialVersion}
use Rattle.span.specs.Keys.{key_bytes}
use Rattle.span.specs.Model.{Bytes}

-- there is a number, and it passes
abbrev pub number_passes : (Float → Bool) → Option Float → Bool
number_passes test None = false
number_passes test (Some x) = test x

abbrev pub reads_one : Option Float → Bool
reads_one n = number_passes (λ x. eq x one) n

abbrev pub reads_some : Option Float → Bool
reads_some n = number_passes (λ x. le zero x) n

-- `_dd.top_level` or `_top_level` reads 1.0
abbrev pub top_level : (Bytes → Option Float) → Bool
top_level number = reads_one (number (key_bytes TracerTopLevel)) || reads_one (number (spelling TopLevel))

-- `_dd.measured` reads 1.0
abbrev pub measured : (Bytes → Option Float) → Bool
measured number = reads_one (number (key_bytes Measured))

-- `_dd.partial_version` reads 0.0 or more
abbrev pub partial_snapshot : (Bytes → Option Float) → Bool
partial_snapshot number = reads_some (number (key_bytes PartialVersion))
