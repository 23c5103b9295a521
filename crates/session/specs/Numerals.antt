-- Numbers as digits, in a base up to sixteen: what digits mean, and how a number is written.
use Rattle.std.specs.Prelude.{ℕ, zero, suc, ◌+◌, ◌-◌, ◌*◌, ◌/◌, ◌%◌, ◌^◌, Bool, true, false, cond, List, [], ◌∷◌, ◌++◌, length, ℤ, pos, neg_ℤ, is_some, Some, None, Option, ◌==◌, nat_le}
use Rattle.std.specs.Option.{unwrap_or, option_map, option_and_then}
use Rattle.std.specs.Int.{is_in_range}
use Rattle.std.specs.Char.{digit_char}
use Rattle.session.specs.Lines.{past_mark}

-- the number, unless it is above the most that is allowed
abbrev pub at_most : ℕ → Option ℕ → Option ℕ
at_most most None = None
at_most most (Some n) = cond (nat_le n most) (Some n) None

-- what a decimal digit or a letter from a to f counts
abbrev pub worth : ℕ → Option ℕ
worth c = cond (is_in_range 48 57 c) (Some (c - 48)) (cond (is_in_range 97 102 c) (Some (c - 87)) None)

-- what a byte counts as a digit of the base
abbrev pub digit_of : ℕ → ℕ → Option ℕ
digit_of base c = at_most (base - 1) (worth c)

-- the number that digits write, after those that made n
abbrev pub numeral : ℕ → ℕ → List ℕ → Option ℕ
numeral base n [] = Some n
numeral base n (c ∷ cs) = cond (is_some (digit_of base c)) (numeral base (n * base + unwrap_or (digit_of base c) 0) cs) None

-- the number that digits write, up to a limit
abbrev pub number_of : ℕ → ℕ → List ℕ → Option ℕ
number_of base most cs = at_most most (numeral base 0 cs)

-- an unsigned number: at least one decimal digit
abbrev pub unsigned_of : ℕ → List ℕ → Option ℕ
unsigned_of most [] = None
unsigned_of most (c ∷ cs) = number_of 10 most (c ∷ cs)

-- a signed number: a minus sign and the number to take from zero, or an unsigned number
abbrev pub below_zero : List ℕ → Option ℤ
below_zero cs = option_map (λ n. neg_ℤ (pos n)) (unsigned_of (2 ^ 63) cs)

abbrev pub signed_of : List ℕ → Option ℤ
signed_of cs = elim (past_mark 45 cs) [ Some ds ↦ below_zero ds | None ↦ option_map pos (unsigned_of (2 ^ 63 - 1) cs) ]

-- a number's last places in base sixteen
unfoldable pub hexes : ℕ → ℕ → List ℕ
hexes zero n = []
hexes (suc places) n = hexes places (n / 16) ++ digit_char (n % 16) ∷ []

-- the 64 bits of a float: an x and sixteen places
abbrev pub float_word : ℕ → List ℕ
float_word n = 120 ∷ hexes 16 n

abbrev pub float_of : List ℕ → Option ℕ
float_of cs = option_and_then (λ ds. cond (length ds == 16) (number_of 16 (2 ^ 64 - 1) ds) None) (past_mark 120 cs)

-- a flag: a one or a zero
abbrev pub flag_word : Bool → List ℕ
flag_word b = cond b 49 48 ∷ []

abbrev pub flag_of : List ℕ → Option Bool
flag_of [] = None
flag_of (c ∷ []) = cond (c == 48) (Some false) (cond (c == 49) (Some true) None)
flag_of (c ∷ (d ∷ cs)) = None
