-- What a writer leaves in its buffer.
use Rattle.std.specs.Prelude.{◌≡◌, ℕ, List, ◌++◌, length, take, Result, MatchResult}
use Rattle.std.specs.declared.alloc.AllocError.{AllocError}

-- the word is appended, or for want of memory some part of it
abbrev pub Grown : Result (Unit {0}) AllocError → List ℕ → List ℕ → List ℕ → Type 0
Grown r old word new = MatchResult r (λ _. new ≡ old ++ word) (λ _. take (length old) new ≡ old)
