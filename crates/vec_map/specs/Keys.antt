-- When two keys are the same.
use Rattle.std.specs.Prelude.{◌≡◌, Bool, true}

-- sameness holds of a key and itself, both ways round, and from key to key
pub record Equivalence {K : Type 0} (same : K → K → Bool) : Type 0 where
  pub itself : (a : K) → same a a ≡ true
  pub flipped : (a b : K) → same a b ≡ true → same b a ≡ true
  pub chained : (a b c : K) → same a b ≡ true → same b c ≡ true → same a c ≡ true
