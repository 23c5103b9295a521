-- What a reader answers, against what its word means.
use Rattle.std.specs.Prelude.{◌≡◌, Bool, true, false, Some, None, Ok, Err, Option, Result}
use Rattle.session.specs.declared.fault.WordFault.{WordFault}
use Rattle.session.specs.declared.fault.WordFault.TheVariants.{Malformed, Memory}

-- there is a value, and the test holds of it; over the library's option_map_or a reader's proof stays open
abbrev pub holds_of : {X : Type 0} → (X → Bool) → Option X → Bool
holds_of test None = false
holds_of test (Some x) = test x

-- the meaning, or that there is none; memory is wanting only for a meaning that takes some
abbrev pub Reads : {V X : Type 0} → (V → X) → (X → Bool) → Option X → Result V WordFault → Type 0
Reads value takes_memory meaning (Ok v) = meaning ≡ Some (value v)
Reads value takes_memory meaning (Err Malformed) = meaning ≡ None
Reads value takes_memory meaning (Err Memory) = holds_of takes_memory meaning ≡ true
