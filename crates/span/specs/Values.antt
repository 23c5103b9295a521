-- The number that a typed value reads as.
use Rattle.std.specs.Float.{binary64}
use Rattle.std.specs.Float.Ieee.{of_int}
use Rattle.std.specs.Prelude.{Some, None, Option, from_bits, Float}
use Rattle.span.specs.declared.value.Value.{Value}
use Rattle.span.specs.declared.value.Value.TheVariants as of

-- a float is the one of its bits, an integer the float nearest to it, a tie to the even one; no other value has a number
abbrev pub number_of : Value → Option Float
number_of (of.Float bits) = Some (from_bits binary64 bits)
number_of (of.Int n) = Some (of_int binary64 n)
number_of (of.Text t) = None
number_of (of.Bool b) = None
number_of (of.Bytes n) = None
number_of (of.KeyValue n) = None
number_of (of.List n) = None
