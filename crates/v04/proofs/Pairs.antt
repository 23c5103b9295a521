-- Two lists of maps side by side: how many rows they have, and one row more.
use Rattle.std.proofs.Common.{◌≡◌, ℕ, suc, List, [], ◌∷◌, ◌++◌, length, refl, ap, arith}
use Rattle.texts.specs.declared.stock.Text.{Text}
use Rattle.vec_map.specs.Maps.{Map}
use Rattle.v04.specs.Edits.{pair}
use Rattle.v04.specs.Maps.{beside}

pub length-beside : (ms : List (Map Text Text)) (ns : List (Map Text ℕ)) → length ns ≡ length ms → length (beside ms ns) ≡ length ms
length-beside [] ns h = refl
length-beside (m ∷ ms) [] h = absurd (omega arith)
length-beside (m ∷ ms) (n ∷ ns) h = ap suc (length-beside ms ns (omega arith))

-- one row more in both
pub beside-more : (ms : List (Map Text Text)) (ns : List (Map Text ℕ)) (a : Map Text Text) (b : Map Text ℕ) → length ns ≡ length ms → beside (ms ++ (a ∷ [])) (ns ++ (b ∷ [])) ≡ beside ms ns ++ (pair a b ∷ [])
beside-more [] [] a b h = refl
beside-more [] (n ∷ ns) a b h = absurd (omega arith)
beside-more (m ∷ ms) [] a b h = absurd (omega arith)
beside-more (m ∷ ms) (n ∷ ns) a b h = ap (λ xs. pair m n ∷ xs) (beside-more ms ns a b (omega arith))
