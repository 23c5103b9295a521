-- The resource that a span shows.
use Rattle.std.specs.Prelude.{ℕ, List, [], ◌∷◌}

-- the resource's own bytes, or the name's where the resource is empty
abbrev pub resource_shown : List ℕ → List ℕ → List ℕ
resource_shown [] name = name
resource_shown (b ∷ bs) name = b ∷ bs
