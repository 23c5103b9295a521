-- Numbers of texts as keys.
use Rattle.std.specs.Prelude.{◌==◌}
use Rattle.std.proofs.lemmas.Bool.Decides.{Decides-eqb}
use Rattle.texts.specs.declared.stock.Text.{Text}
use Rattle.vec_map.specs.Keys.{Equivalence}
use Rattle.vec_map.specs.KeysLemmas.{image_equivalence}

-- having the same number is a sameness of keys
pub number_equivalence : Equivalence (λ (a b : Text). (a.number == b.number))
number_equivalence = image_equivalence (λ t. t.number) (λ x y. (x == y)) Decides-eqb
