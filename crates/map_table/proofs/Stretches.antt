-- One stretch of a list, and what a write to it leaves of the rest.
use Rattle.std.proofs.Common.{◌≡◌, ℕ, ◌+◌, ◌-◌, ◌≤◌, List, ◌++◌, length, take, drop, sym, ap, ◌∙◌, arith}
use borrow.Rule.Slice.PartMut.{put_mid}
use Rattle.std.proofs.Math.Seq.{paste}
use Rattle.std.proofs.lemmas.List.{length-take, length-drop, length-append, length-take-le, take_at, drop_at, take-append-le, drop-append-le, append_assoc, drop-drop, drop-take, take-take}

-- the list with zs in the place of its stretch
abbrev pub with_stretch : {X : Type 0} → List X → ℕ → ℕ → List X → List X
with_stretch xs start stride zs = take start xs ++ (zs ++ drop stride (drop start xs))

module _ {X : Type 0} (xs zs : List X) (start stride : ℕ) (fits : start + stride ≤ length xs) (long : length zs ≡ stride) where
  pub stretch_before : take start (with_stretch xs start stride zs) ≡ take start xs
  stretch_before = take_at (take start xs) (zs ++ drop stride (drop start xs)) start (length-take-le start xs (omega arith))

  pub stretch_after : drop (start + stride) (with_stretch xs start stride zs) ≡ drop (start + stride) xs
  stretch_after =
      sym (drop-drop stride start (with_stretch xs start stride zs))
      ∙ ap (drop stride) (drop_at (take start xs) (zs ++ drop stride (drop start xs)) start (length-take-le start xs (omega arith)))
      ∙ drop_at zs (drop stride (drop start xs)) stride long
      ∙ drop-drop stride start xs

  pub stretch_long : length (with_stretch xs start stride zs) ≡ length xs
  stretch_long =
      length-append (take start xs) (zs ++ drop stride (drop start xs))
      ∙ omega (arith, length-append zs (drop stride (drop start xs)), length-take start xs, length-drop stride (drop start xs), length-drop start xs)

  -- what lies in front of the stretch stays
  pub stretch_front : (n : ℕ) → n ≤ start → take n (with_stretch xs start stride zs) ≡ take n xs
  stretch_front n le =
      take-append-le n (take start xs) (zs ++ drop stride (drop start xs)) (omega (arith, length-take start xs)) ∙ take-take n start xs le

  -- the same stretch of what is left after a cut in front of it
  pub stretch_cut : (m rest : ℕ) → start ≡ m + rest → drop m (with_stretch xs start stride zs) ≡ with_stretch (drop m xs) rest stride zs
  stretch_cut m rest is =
      drop-append-le m (take start xs) (zs ++ drop stride (drop start xs)) (omega (arith, length-take start xs))
      ∙ ap (λ n. drop m (take n xs) ++ (zs ++ drop stride (drop n xs))) is
      ∙ ap (λ ys. ys ++ (zs ++ drop stride (drop (m + rest) xs))) (drop-take m rest xs)
      ∙ ap (λ ys. take rest (drop m xs) ++ (zs ++ drop stride ys)) (sym (drop-drop rest m xs))

-- a stretch of a Vec was lent as one of zs, and ys came back
module _ {X : Type 0} (xs ys zs old : List X) (start stride len : ℕ) where
  pub stretch_lent : zs ≡ xs → len ≡ length xs → start + stride ≤ len → length ys ≡ stride → take len (put_mid start (start + stride - start) zs ys ++ old) ≡ with_stretch xs start stride ys
  stretch_lent eq l fits long =
      let k : start + stride - start ≡ stride = omega arith in
      let fits' : start + stride ≤ length xs = omega arith in
      ap (λ n. take len (put_mid start n zs ys ++ old)) k
      ∙ ap (λ z. take len (with_stretch z start stride ys ++ old)) eq
      ∙ take_at (with_stretch xs start stride ys) old len (stretch_long xs ys start stride fits' long ∙ sym l)

-- what was lent is the stretch
pub lent_stretch : {X : Type 0} (xs zs : List X) (start stride : ℕ) → zs ≡ xs → take (start + stride - start) (drop start zs) ≡ take stride (drop start xs)
lent_stretch {X} xs zs start stride eq =
    let k : start + stride - start ≡ stride = omega arith in
    ap (λ z. take (start + stride - start) (drop start z)) eq ∙ ap (λ n. take n (drop start xs)) k

-- a copy over a stretch
pub pasted_stretch : {X : Type 0} (xs ys : List X) (start stride n : ℕ) → n ≡ stride → paste xs start ys n ≡ with_stretch xs start stride (take stride ys)
pasted_stretch {X} xs ys start stride n is =
    ap (λ m. paste xs start ys m) is
    ∙ append_assoc (take start xs) (take stride ys) (drop (start + stride) xs)
    ∙ ap (λ zs. take start xs ++ (take stride ys ++ zs)) (sym (drop-drop stride start xs))
