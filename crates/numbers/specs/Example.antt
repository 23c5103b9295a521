-- A worked value: the integer 9007199254740993 reads 9007199254740992.
use Rattle.std.specs.Prelude.{◌≡◌, false, pos, Float}
use Rattle.std.specs.Float.{fin, binary64}
use Rattle.std.specs.Float.Ieee.{of_int}
use Rattle.numbers.specs.Near.{Exactly}

-- 2 ^ 53, which is 9007199254740992
abbrev pub reading : Float
reading = fin false 1 (pos 53)

abbrev pub Example : Type 0
Example = (of_int binary64 (pos 9007199254740993) ≡ reading) × Exactly reading (pos 9007199254740992)
