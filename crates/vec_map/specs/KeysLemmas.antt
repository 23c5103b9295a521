-- Keys that are the same where their images are.
use Rattle.std.proofs.Common.{◌≡◌, Bool, refl, sym, ◌∙◌}
use Rattle.std.specs.Bool.{Decides}
use Rattle.std.specs.Str.{bytes_eq}
use Rattle.std.proofs.lemmas.Slice.Eq.{bytes_eq-Decides}
use Rattle.texts.specs.Stocks.{Texts, same_text}
use Rattle.vec_map.specs.Keys.{Equivalence}

-- having the same image is such a sameness, by any test that tells equal images
pub image_equivalence : {K X : Type 0} (f : K → X) (test : X → X → Bool) → ((x y : X) → Decides (test x y) (x ≡ y)) → Equivalence (λ a b. test (f a) (f b))
image_equivalence f test tells = record {
  itself = λ a. (tells (f a) (f a)).1 refl;
  flipped = λ a b h. (tells (f b) (f a)).1 (sym ((tells (f a) (f b)).0 h));
  chained = λ a b c h k. (tells (f a) (f c)).1 ((tells (f a) (f b)).0 h ∙ (tells (f b) (f c)).0 k);
}

-- as is having the same bytes
pub text_equivalence : (s : Texts) → Equivalence (same_text s)
text_equivalence s = image_equivalence s.bytes bytes_eq bytes_eq-Decides
