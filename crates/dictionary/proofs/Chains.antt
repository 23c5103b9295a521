-- A walk along the chain of a bucket, from its latest text back.
use Rattle.std.proofs.Common.{◌≡◌, ℕ, suc, ◌<◌, ◌≤◌, true, false, cond, eqb, List, [], length, get_or, take, Some, None, Option, sym, ap, ◌∙◌, arith}
use Rattle.std.proofs.lemmas.Slice.Eq.{bytes_eq-Decides}
use Rattle.std.proofs.lemmas.List.{take_all, length-take, get_or-take, take-take}
use Rattle.std.proofs.lemmas.Bool.{eqb-true, eq-eqb}
use Rattle.std.specs.Str.{bytes_eq}
use Rattle.dictionary.specs.Dictionaries.{place_of}
use Rattle.dictionary.specs.Buckets.{bucket_of, latest}
use Rattle.dictionary.specs.PlacesLemmas.{Hit, last_place-hit, narrow, narrow_none}

-- how far a walk still has to go
abbrev pub steps_left : Option ℕ → ℕ
steps_left None = 0
steps_left (Some i) = suc i

-- A walk for the bytes bs that stands at `at`: of the first `seen` texts, `at` is the latest in the bucket of bs, and all later texts have other bytes.
pub record Walk (size : ℕ) (ts : List (List ℕ)) (bs : List ℕ) (at : Option ℕ) : Type 0 where
  pub seen : ℕ
  pub at_latest : at ≡ latest size (bucket_of size bs) (take seen ts)
  pub same_place : place_of (take seen ts) bs ≡ place_of ts bs

module _ (size : ℕ) (ts : List (List ℕ)) (bs : List ℕ) where
  -- texts with the bytes bs are in their bucket
  wider : (t : List ℕ) → bytes_eq t bs ≡ true → eqb (bucket_of size t) (bucket_of size bs) ≡ true
  wider t e = eq-eqb _ _ (ap (bucket_of size) ((bytes_eq-Decides t bs).0 e))

  pub walk_begins : (at : Option ℕ) → at ≡ latest size (bucket_of size bs) ts → Walk size ts bs at
  walk_begins at e = record { seen = length ts; at_latest = e ∙ ap (latest size (bucket_of size bs)) (sym (take_all (length ts) ts (omega arith))); same_place = ap (λ us. place_of us bs) (take_all (length ts) ts (omega arith)) }

  pub walk_ends : (at : Option ℕ) → at ≡ None → Walk size ts bs at → None ≡ place_of ts bs
  walk_ends at e w = sym (narrow_none (λ t. bytes_eq t bs) (λ t. eqb (bucket_of size t) (bucket_of size bs)) wider (take w.seen ts) (sym w.at_latest ∙ e)) ∙ w.same_place

  -- the text that a walk stands at
  pub record Stands (i : ℕ) : Type 0 where
    pub below : i < length ts
    pub bucket : bucket_of size (get_or ts i []) ≡ bucket_of size bs
    -- it has the bytes bs, or the text with these stands before it
    pub looks : place_of ts bs ≡ cond (bytes_eq (get_or ts i []) bs) (Some i) (place_of (take i ts) bs)

  module _ (i : ℕ) (at : Option ℕ) (e : at ≡ Some i) (w : Walk size ts bs at) where
    hit : Hit (λ t. eqb (bucket_of size t) (bucket_of size bs)) (take w.seen ts) i
    hit = last_place-hit (λ t. eqb (bucket_of size t) (bucket_of size bs)) (take w.seen ts) i (sym w.at_latest ∙ e)

    seen_past : i < w.seen
    seen_past = omega (arith, hit.below, length-take w.seen ts)

    text_here : get_or (take w.seen ts) i [] ≡ get_or ts i []
    text_here = get_or-take w.seen ts i [] seen_past

    pub walk_stands : Stands i
    walk_stands = record {
      below = omega (arith, hit.below, length-take w.seen ts);
      bucket = eqb-true _ _ (ap (λ t. eqb (bucket_of size t) (bucket_of size bs)) (sym text_here) ∙ hit.passes []);
      looks =
          sym w.same_place
          ∙ narrow (λ t. bytes_eq t bs) (λ t. eqb (bucket_of size t) (bucket_of size bs)) wider (take w.seen ts) i [] (sym w.at_latest ∙ e)
          ∙ ap (λ t. cond (bytes_eq t bs) (Some i) (place_of (take i (take w.seen ts)) bs)) text_here
          ∙ ap (λ us. cond (bytes_eq (get_or ts i []) bs) (Some i) (place_of us bs)) (take-take i w.seen ts (omega (arith, seen_past)));
    }

  pub walk_found : (i : ℕ) → Stands i → get_or ts i [] ≡ bs → Some i ≡ place_of ts bs
  walk_found i s eq = sym (s.looks ∙ ap (λ b. cond b (Some i) (place_of (take i ts) bs)) ((bytes_eq-Decides _ _).1 eq))

  pub walk_on : (i : ℕ) (next : Option ℕ) → Stands i → bytes_eq (get_or ts i []) bs ≡ false → next ≡ latest size (bucket_of size (get_or ts i [])) (take i ts) → Walk size ts bs next
  walk_on i next s other link = record {
    seen = i;
    at_latest = link ∙ ap (λ b. latest size b (take i ts)) s.bucket;
    same_place = sym (s.looks ∙ ap (λ b. cond b (Some i) (place_of (take i ts) bs)) other);
  }

-- the next text of a chain stands before
pub steps_fall : (size b i : ℕ) (ts : List (List ℕ)) (next : Option ℕ) → next ≡ latest size b (take i ts) → steps_left next ≤ i
steps_fall size b i ts None e = omega arith
steps_fall size b i ts (Some j) e =
    omega (arith, (last_place-hit (λ t. eqb (bucket_of size t) b) (take i ts) j (sym e)).below, length-take i ts)
