-- What one text more does to a dictionary: the texts, that they are apart, the heads and the links.
use Rattle.std.proofs.Common.{◌≡◌, ℕ, suc, ◌+◌, ◌<◌, ◌≤◌, Bool, true, false, cond, not, eqb, leb, List, [], ◌∷◌, ◌++◌, length, get_or, take, drop, set, is_some, Some, None, Option, sym, refl, ap, ◌∙◌, ⊎_elim, arith}
use Rattle.std.proofs.lemmas.Slice.Eq.{bytes_eq-Decides}
use Rattle.std.proofs.lemmas.List.{length-append, length-drop, length-take, take-append-le, drop-append-le, drop_at, take_all, take_at, map-append, get_or_append_left, get_or_push, get_or-set_same, get_or-set_other}
use Rattle.std.proofs.lemmas.Bool.{cases_Bool, cases_lt, cases_eq, leb-true, le-leb, and_parts, and_from, eq-eqb, ne_eqb}
use Rattle.std.proofs.lemmas.List.Sums.{fold-append}
use Rattle.std.specs.Option.{option_map, option_or}
use Rattle.std.specs.Str.{bytes_eq}
use Rattle.dictionary.specs.declared.slot.Slot.{Slot}
use Rattle.dictionary.specs.Dictionaries.{total, place_of, apart}
use Rattle.dictionary.specs.Buckets.{slot_bytes, held_texts, slots_within, bucket_of, latest, HeadsRight, LinksRight}
use Rattle.dictionary.specs.PlacesLemmas.{last_place-push}

-- the entries
module _ (area bs : List ℕ) where
  slot_stays : (s : Slot) → s.start + s.len ≤ length area → slot_bytes (area ++ bs) s ≡ slot_bytes area s
  slot_stays s fits =
      ap (take s.len) (drop-append-le s.start area bs (omega arith))
      ∙ take-append-le s.len (drop s.start area) bs (simp length-drop (omega arith))

  held_stays : (ss : List Slot) → slots_within (length area) ss ≡ true → held_texts (area ++ bs) ss ≡ held_texts area ss
  held_stays [] all = refl
  held_stays (s ∷ ss) all =
      let parts = and_parts (leb (s.start + s.len) (length area)) (slots_within (length area) ss) all in
      ap (λ t. t ∷ held_texts (area ++ bs) ss) (slot_stays s (leb-true _ _ parts.0)) ∙ ap (λ ts. slot_bytes area s ∷ ts) (held_stays ss parts.1)

  slot_new : (s : Slot) → s.start ≡ length area → s.len ≡ length bs → slot_bytes (area ++ bs) s ≡ bs
  slot_new s start len =
      ap (take s.len) (drop_at area bs s.start (sym start)) ∙ take_all s.len bs (omega arith)

  pub held-grows : (ss : List Slot) (s : Slot) → slots_within (length area) ss ≡ true → s.start ≡ length area → s.len ≡ length bs → held_texts (area ++ bs) (ss ++ s ∷ []) ≡ held_texts area ss ++ bs ∷ []
  held-grows ss s all start len =
      map-append (slot_bytes (area ++ bs)) ss (s ∷ [])
      ∙ ap (λ ts. ts ++ slot_bytes (area ++ bs) s ∷ []) (held_stays ss all)
      ∙ ap (λ t. held_texts area ss ++ t ∷ []) (slot_new s start len)

pub within-grows : (n m : ℕ) (ss : List Slot) (s : Slot) → slots_within n ss ≡ true → n ≤ m → s.start + s.len ≤ m → slots_within m (ss ++ s ∷ []) ≡ true
within-grows n m [] s all le fits = and_from _ _ (le-leb _ _ fits) refl
within-grows n m (r ∷ rs) s all le fits =
    let parts = and_parts (leb (r.start + r.len) n) (slots_within n rs) all in
    let below = leb-true _ _ parts.0 in
    and_from _ _ (le-leb _ _ (omega arith)) (within-grows n m rs s parts.1 le fits)

-- the texts
pub total-push : (ts : List (List ℕ)) (t : List ℕ) → total (ts ++ t ∷ []) ≡ total ts + length t
total-push ts t = fold-append (λ a u. a + length u) 0 ts (t ∷ [])

-- bytes that are not held differ from each text
other_first : (u t : List ℕ) (us : List (List ℕ)) → place_of (u ∷ us) t ≡ None → (place_of us t ≡ None) × (bytes_eq u t ≡ false)
other_first u t us e = split (place_of us t) (bytes_eq u t) e
  where
    split : (o : Option ℕ) (b : Bool) → option_or (option_map suc o) (cond b (Some 0) None) ≡ None → (o ≡ None) × (b ≡ false)
    split None false f = (refl, refl)
    split None true f = let z : ◌≡◌ {A = ℕ} 0 1 = cc in absurd (omega arith)
    split (Some i) b f = let z : ◌≡◌ {A = ℕ} 0 1 = cc in absurd (omega arith)

other_way : (u t : List ℕ) → bytes_eq u t ≡ false → bytes_eq t u ≡ false
other_way u t e =
    ⊎_elim (λ same. let z : true ≡ false = sym ((bytes_eq-Decides u t).1 (sym ((bytes_eq-Decides t u).0 same))) ∙ e in let n : ◌≡◌ {A = ℕ} 0 1 = cc in absurd (omega arith)) (λ f. f) (cases_Bool (bytes_eq t u))

pub apart-push : (ts : List (List ℕ)) (t : List ℕ) → apart ts ≡ true → place_of ts t ≡ None → apart (ts ++ t ∷ []) ≡ true
apart-push [] t a new = refl
apart-push (u ∷ us) t a new =
    let parts = and_parts (not (is_some (place_of us u))) (apart us) a in
    let other = other_first u t us new in
    and_from _ _
    (ap (λ o. not (is_some o)) (last_place-push (λ v. bytes_eq v u) us t ∙ ap (λ b. cond b (Some (length us)) (place_of us u)) (other_way u t other.1)) ∙ parts.0)
    (apart-push us t parts.1 other.0)

pub opens_stays : (n : ℕ) (ts us : List (List ℕ)) (t : List ℕ) → take n ts ≡ us → length us ≡ n → take n (ts ++ t ∷ []) ≡ us
opens_stays n ts us t e long = take-append-le n ts (t ∷ []) (omega (arith, length-take n ts, ap length e)) ∙ e

-- the heads and the links
module _ (size : ℕ) (ts : List (List ℕ)) (t : List ℕ) where
  latest-push : (b : ℕ) → latest size b (ts ++ t ∷ []) ≡ cond (eqb (bucket_of size t) b) (Some (length ts)) (latest size b ts)
  latest-push b = last_place-push (λ u. eqb (bucket_of size u) b) ts t

  pub heads_grow : (heads : List (Option ℕ)) (b : ℕ) → HeadsRight size heads ts → length heads ≡ size → b ≡ bucket_of size t → HeadsRight size (set heads b (Some (length ts))) (ts ++ t ∷ [])
  heads_grow heads b right long is k lt =
      ⊎_elim
      (λ (e : k ≡ b). let here : k < length heads = omega arith in
      ap (λ n. get_or (set heads b (Some (length ts))) n None) e
      ∙ get_or-set_same heads b (Some (length ts)) None (omega arith)
      ∙ sym (latest-push k ∙ ap (λ c. cond c (Some (length ts)) (latest size k ts)) (eq-eqb _ _ (sym (e ∙ is)))))
      (λ (ne : k ≡ b → ⊥).
      get_or-set_other heads b k (Some (length ts)) None ne
      ∙ right k lt
      ∙ sym (latest-push k ∙ ap (λ c. cond c (Some (length ts)) (latest size k ts)) (ne_eqb _ _ (λ e. ne (sym (is ∙ e))))))
      (cases_eq k b)

  pub links_grow : (ss : List Slot) (s : Slot) → LinksRight size ss ts → length ss ≡ length ts → s.next ≡ latest size (bucket_of size t) ts → LinksRight size (ss ++ s ∷ []) (ts ++ t ∷ [])
  links_grow ss s right long next i d lt =
      ⊎_elim
      (λ (below : i < length ss).
      ap (λ (r : Slot). r.next) (get_or_append_left ss (s ∷ []) d i below)
      ∙ right i d below
      ∙ ap (λ u. latest size (bucket_of size u) (take i ts)) (sym (get_or_append_left ts (t ∷ []) [] i (omega arith)))
      ∙ ap (latest size (bucket_of size (get_or (ts ++ t ∷ []) i []))) (sym (take-append-le i ts (t ∷ []) (omega arith))))
      (λ (past : length ss ≤ i).
      let here : length ss ≡ i = omega (arith, length-append ss (s ∷ [])) in
      ap (λ (r : Slot). r.next) (get_or_push ss s d i here)
      ∙ next
      ∙ ap (λ u. latest size (bucket_of size u) ts) (sym (get_or_push ts t [] i (omega arith)))
      ∙ ap (latest size (bucket_of size (get_or (ts ++ t ∷ []) i []))) (sym (take_at ts (t ∷ []) i (omega arith))))
      (cases_lt i (length ss))
