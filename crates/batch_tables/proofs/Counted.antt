-- Counting the spans of chunks, one chunk after another.
use Rattle.std.proofs.Common.{◌≡◌, ℕ, ◌+◌, ◌-◌, ◌<◌, ◌≤◌, Bool, true, false, eqb, List, length, get_or, drop, sym, refl, ap, ◌∙◌, arith}
use Rattle.std.proofs.lemmas.List.{drop_more, drop_all}
use Rattle.std.proofs.lemmas.Bool.{eqb-true, eqb-false, eq-eqb, ne_eqb}
use Rattle.batch_tables.specs.declared.limits.ChunkRow.{ChunkRow}
use Rattle.batch_tables.specs.Limits.{total}

-- two tests for equality that hold together
same_eqb : (a b c d : ℕ) → (a ≡ b → c ≡ d) → (c ≡ d → a ≡ b) → eqb a b ≡ eqb c d
same_eqb a b c d f g = by (eqb a b) refl
  where
    by : (t : Bool) → eqb a b ≡ t → eqb a b ≡ eqb c d
    by true e = e ∙ sym (eq-eqb c d (f (eqb-true a b e)))
    by false e = e ∙ sym (ne_eqb c d (λ z. eqb-false a b e (g z)))

module _ {H : Type 0} (cs : List (ChunkRow H)) (i : ℕ) (c : ChunkRow H) (lt : i < length cs) (read : c ≡ get_or cs i c) where
  left-of : total (drop i cs) ≡ c.count + total (drop (i + 1) cs)
  left-of = ap total (drop_more cs i c lt) ∙ ap (λ x. x.count + total (drop (i + 1) cs)) (sym read)

  pub count-more : (rest : ℕ) (t : Bool) → eqb (total (drop i cs)) rest ≡ t → c.count ≤ rest → eqb (total (drop (i + 1) cs)) (rest - c.count) ≡ t
  count-more rest t inv le =
      same_eqb (total (drop (i + 1) cs)) (rest - c.count) (c.count + total (drop (i + 1) cs)) rest (λ e. omega arith) (λ e. omega arith)
      ∙ ap (λ n. eqb n rest) (sym left-of) ∙ inv

  pub count_past : (rest : ℕ) (t : Bool) → eqb (total (drop i cs)) rest ≡ t → rest < c.count → false ≡ t
  count_past rest t inv gt = sym (ne_eqb (total (drop i cs)) rest (λ e. omega (arith, left-of))) ∙ inv

pub count-all : {H : Type 0} (cs : List (ChunkRow H)) (i rest : ℕ) (t : Bool) → eqb (total (drop i cs)) rest ≡ t → length cs ≤ i → eqb rest 0 ≡ t
count-all cs i rest t inv le = same_eqb rest 0 0 rest (λ e. sym e) (λ e. sym e) ∙ ap (λ n. eqb n rest) (sym (ap total (drop_all i cs le))) ∙ inv
