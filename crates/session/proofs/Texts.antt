-- A text byte by byte: how a spelling begins, and that what is written reads back.
use Rattle.std.proofs.Common.{◌≡◌, ℕ, suc, ◌^◌, ◌<◌, true, false, cond, not, eqb, ltb, leb, List, [], ◌∷◌, ◌++◌, get_or, Some, None, Option, sym, refl, ap, ◌∙◌, ⊎_elim, append_assoc, arith, w8, Fits}
use Rattle.std.proofs.lemmas.Bool.{and_parts, and_from, cases_Bool, not-true}
use Rattle.std.specs.List.{flat_map}
use Rattle.std.specs.Int.{is_in_range}
use Rattle.session.specs.Lines.{unspaced}
use Rattle.session.specs.Numerals.{number_of, hexes}
use Rattle.session.specs.Texts.{plain, itself, onto, spelt_byte, spelt, unspelt, text_of, after_all, SpellsFirst}
use Rattle.session.proofs.Lines.{unspaced-append}
use Rattle.session.proofs.Writing.{hexes-count, number-reads}

plain-sign : (c : ℕ) → plain c ≡ true → eqb c 37 ≡ false
plain-sign c is = not-true (eqb c 37) (and_parts (is_in_range 33 126 c) (not (eqb c 37)) is).1

-- a byte that stands for itself
unspelt-plain : (c : ℕ) (cs : List ℕ) → plain c ≡ true → unspelt (c ∷ cs) ≡ onto (Some c) (unspelt cs)
unspelt-plain c [] is = ap (λ b. onto (cond b (Some c) None) (Some [])) is
unspelt-plain c (d ∷ []) is = ap (λ b. onto (cond b (Some c) None) (unspelt (d ∷ []))) is
unspelt-plain c (d ∷ (e ∷ cs)) is =
    ap (λ b. cond b (onto (number_of 16 255 (d ∷ (e ∷ []))) (unspelt cs)) (onto (itself c) (unspelt (d ∷ (e ∷ cs))))) (plain-sign c is)
    ∙ ap (λ b. onto (cond b (Some c) None) (unspelt (d ∷ (e ∷ cs)))) is

-- a byte as it is written, before a spelling
unspelt-byte : (c : ℕ) (cs : List ℕ) → c < 2 ^ 8 → unspelt (spelt_byte c ++ cs) ≡ onto (Some c) (unspelt cs)
unfolding hexes
unspelt-byte c cs small = ⊎_elim
    (λ (yea : plain c ≡ true). ap (λ b. unspelt (cond b (c ∷ []) (37 ∷ hexes 2 c) ++ cs)) yea ∙ unspelt-plain c cs yea)
    (λ (nay : plain c ≡ false). ap (λ b. unspelt (cond b (c ∷ []) (37 ∷ hexes 2 c) ++ cs)) nay ∙ ap (λ o. onto o (unspelt cs)) (number-reads 16 255 c (hexes 2 c) (hexes-count 2 c small) (omega arith)))
    (cases_Bool (plain c))

later : (c : ℕ) (cs : List ℕ) → ((i : ℕ) → Fits w8 (get_or (c ∷ cs) i 0)) → (i : ℕ) → Fits w8 (get_or cs i 0)
later c cs fits i = fits (suc i)

unspelt-joined : (cs : List ℕ) → ((i : ℕ) → Fits w8 (get_or cs i 0)) → unspelt (flat_map spelt_byte cs) ≡ Some cs
unspelt-joined [] fits = refl
unspelt-joined (c ∷ cs) fits = unspelt-byte c (flat_map spelt_byte cs) (fits 0).fits ∙ ap (onto (Some c)) (unspelt-joined cs (later c cs fits))

byte_visible : (c : ℕ) → c < 2 ^ 8 → unspaced (spelt_byte c) ≡ true
byte_visible c small = ⊎_elim
    (λ (yea : plain c ≡ true). ap (λ b. unspaced (cond b (c ∷ []) (37 ∷ hexes 2 c))) yea ∙ and_from (ltb 32 c) true (and_parts (leb 33 c) (leb c 126) (and_parts (is_in_range 33 126 c) (not (eqb c 37)) yea).0).0 refl)
    (λ (nay : plain c ≡ false). ap (λ b. unspaced (cond b (c ∷ []) (37 ∷ hexes 2 c))) nay ∙ (hexes-count 2 c small).visible)
    (cases_Bool (plain c))

joined_visible : (cs : List ℕ) → ((i : ℕ) → Fits w8 (get_or cs i 0)) → unspaced (flat_map spelt_byte cs) ≡ true
joined_visible [] fits = refl
joined_visible (c ∷ cs) fits = unspaced-append (spelt_byte c) _ (byte_visible c (fits 0).fits) (joined_visible cs (later c cs fits))

pub text_reads : (cs : List ℕ) → ((i : ℕ) → Fits w8 (get_or cs i 0)) → text_of (spelt cs) ≡ Some cs
text_reads cs fits = unspelt-joined cs fits

pub text_visible : (cs : List ℕ) → ((i : ℕ) → Fits w8 (get_or cs i 0)) → unspaced (spelt cs) ≡ true
text_visible cs fits = joined_visible cs fits

after-onto : (cs : List ℕ) (c : ℕ) (t : Option (List ℕ)) → after_all (cs ++ c ∷ []) t ≡ after_all cs (onto (Some c) t)
after-onto cs c None = refl
after-onto cs c (Some ds) = ap Some (append_assoc cs (c ∷ []) ds)

-- a byte is read, and goes to the end of the text
pub text_more : (cs rest : List ℕ) (c : ℕ) (text : List ℕ) → SpellsFirst cs c rest → after_all (text ++ c ∷ []) (unspelt rest) ≡ after_all text (unspelt cs)
text_more cs rest c text first = after-onto text c (unspelt rest) ∙ ap (after_all text) (sym first.spelt)
