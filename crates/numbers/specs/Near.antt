-- How far a float lies from the integer that it stands for.
use Rattle.std.specs.Prelude.{◌≡◌, ℕ, ◌*◌, Bool, true, false, ℤ, pos, ◌+ℤ◌, ◌-ℤ◌, ◌*ℤ◌, neg_ℤ, ◌≤ℤ◌, Float}
use Rattle.std.specs.Float.{nan, inf, fin}
use Rattle.std.specs.Float.Ieee.{up, down}

-- a size with its sign, negative where the sign is true
abbrev pub signed : Bool → ℕ → ℤ
signed false k = pos k
signed true k = neg_ℤ (pos k)

-- The float is exactly the integer z: a finite one is, where m times 2 ^ e, its sign counted, is z. Of `up e` and `down e` one is 1, and the other is 2 ^ e or its inverse.
abbrev pub Exactly : Float → ℤ → Type 0
Exactly nan z = ⊥
Exactly (inf s) z = ⊥
Exactly (fin s m e) z = signed s (m * up e) ≡ z *ℤ pos (down e)

-- The float is a whole number, and at most 512 from n.
pub record Near (r : Float) (n : ℤ) : Type 0 where
  pub whole : ℤ
  pub exactly : Exactly r whole
  pub least : (n -ℤ pos 512) ≤ℤ whole
  pub most : whole ≤ℤ (n +ℤ pos 512)
