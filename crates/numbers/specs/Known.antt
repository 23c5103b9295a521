-- The floats that a number is held against. `fin false m e` is m * 2 ^ e.
use Rattle.std.specs.Prelude.{false, pos, Float}
use Rattle.std.specs.Float.{fin}

abbrev pub zero : Float
zero = fin false 0 (pos 0)

abbrev pub one : Float
one = fin false 1 (pos 0)

abbrev pub eight : Float
eight = fin false 1 (pos 3)
