-- How much of the input is not read yet.
use Rattle.std.specs.Prelude.{ℕ, suc, List, length, Some, None, Option}
use Rattle.std.specs.Borrow.{Bor}

-- nothing at the end; before it, one more than the bytes that are left, since a last line may be empty
abbrev pub unread : Option (Bor (List ℕ)) → ℕ
unread None = 0
unread (Some text) = suc (length text.now)
