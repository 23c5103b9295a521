use Rattle.std.proofs.Common.{◌≡◌, ℕ, ◌+◌, ◌<◌, ◌≤◌, true, ◌&&◌, ltb, leb, List, [], ◌∷◌, ◌++◌, length, get_or, take, set, Some, None, vec_items, vec_len, Option, sym, refl, ap, ◌∙◌, subst, arith}
use Rattle.std.proofs.lemmas.List.{get_or_default}
use Rattle.std.proofs.lemmas.Bool.{and_parts, leb-true, ltb-true}
use Rattle.dictionary.specs.declared.Dictionary.{Dictionary}
use Rattle.dictionary.specs.declared.slot.Slot.{Slot}
use Rattle.texts.specs.Stocks.{longest}
use Rattle.dictionary.specs.Dictionaries.{total, place_of, apart, first_entries, fits_in}
use Rattle.dictionary.specs.Buckets.{held_texts, slots_within, bucket_of, latest, HeadsRight, LinksRight}
use Rattle.dictionary.specs.Held.{texts_in}
use Rattle.dictionary.proofs.Held.{slots_long}
use Rattle.dictionary.proofs.Grows.{held-grows, within-grows, total-push, apart-push, opens_stays, heads_grow, links_grow}
use Rattle.dictionary.proofs.Dictionary.append.Goals as goal

-- what the three tests of a fit say
pub record Fits (d : Dictionary) (bs : List ℕ) : Type 0 where
  pub short : length bs ≤ longest
  pub entry : length (texts_in d) < vec_len d.heads
  pub bytes : total (texts_in d) + length bs ≤ d.limit

fit_parts : (d : Dictionary) (bs : List ℕ) → fits_in d.limit (vec_len d.heads) (texts_in d) bs ≡ true → Fits d bs
fit_parts d bs e =
    let first = and_parts (leb (length bs) longest) (ltb (length (texts_in d)) (vec_len d.heads) && leb (total (texts_in d) + length bs) d.limit) e in
    let rest = and_parts (ltb (length (texts_in d)) (vec_len d.heads)) (leb (total (texts_in d) + length bs) d.limit) first.1 in
    record { short = leb-true _ _ first.0; entry = ltb-true _ _ rest.0; bytes = leb-true _ _ rest.1 }

-- the area and the entries after the call, and what holds of them
module _ (d : Dictionary) (bs : List ℕ) (s : Slot) (area : List ℕ) (slots : List Slot) (start : s.start ≡ vec_len d.area) (len : s.len ≡ length bs) (appended : area ≡ vec_items d.area ++ bs) (pushed : slots ≡ vec_items d.slots ++ s ∷ []) where
  new_texts : held_texts area slots ≡ texts_in d ++ bs ∷ []
  new_texts =
      ap (λ xs. held_texts xs slots) appended
      ∙ ap (held_texts (vec_items d.area ++ bs)) pushed
      ∙ held-grows (vec_items d.area) bs (vec_items d.slots) s (ap (λ n. slots_within n (vec_items d.slots)) (sym d.area.ok.0) ∙ d.placed) (start ∙ d.area.ok.0) len

  new_placed : (n : ℕ) → n ≡ vec_len d.area + length bs → slots_within n slots ≡ true
  new_placed n e = ap (slots_within n) pushed ∙ within-grows (vec_len d.area) n (vec_items d.slots) s d.placed (omega arith) (omega arith)

  new_whole : (n : ℕ) → n ≡ vec_len d.area + length bs → total (held_texts area slots) ≡ n
  new_whole n e = ap total new_texts ∙ total-push (texts_in d) bs ∙ omega (arith, d.whole)

  new_once : place_of (texts_in d) bs ≡ None → apart (held_texts area slots) ≡ true
  new_once new = ap apart new_texts ∙ apart-push (texts_in d) bs d.once new

  new_opens : take (length first_entries) (held_texts area slots) ≡ first_entries
  new_opens = ap (take (length first_entries)) new_texts ∙ opens_stays (length first_entries) (texts_in d) first_entries bs d.opens refl

  new_headed : (b place : ℕ) → b ≡ bucket_of (vec_len d.heads) bs → place ≡ vec_len d.slots → HeadsRight (vec_len d.heads) (set (vec_items d.heads) b (Some place)) (held_texts area slots)
  new_headed b place is at =
      subst (λ n. HeadsRight (vec_len d.heads) (set (vec_items d.heads) b (Some n)) (held_texts area slots)) (slots_long d ∙ sym at)
      (subst (HeadsRight (vec_len d.heads) (set (vec_items d.heads) b (Some (length (texts_in d))))) (sym new_texts)
      (heads_grow (vec_len d.heads) (texts_in d) bs (vec_items d.heads) b d.headed (sym d.heads.ok.0) is))

  new_linked : s.next ≡ latest (vec_len d.heads) (bucket_of (vec_len d.heads) bs) (texts_in d) → LinksRight (vec_len d.heads) slots (held_texts area slots)
  new_linked next =
      subst (λ ss. LinksRight (vec_len d.heads) ss (held_texts area slots)) (sym pushed)
      (subst (LinksRight (vec_len d.heads) (vec_items d.slots ++ s ∷ [])) (sym new_texts)
      (links_grow (vec_len d.heads) (texts_in d) bs (vec_items d.slots) s d.linked (sym d.slots.ok.0 ∙ sym (slots_long d)) next))

-- the head of a bucket, as it was read
head_read : (d : Dictionary) (bs : List ℕ) (b : ℕ) (h : Option ℕ) → b < vec_len d.heads → b ≡ bucket_of (vec_len d.heads) bs → h ≡ get_or (vec_items d.heads) b h → h ≡ latest (vec_len d.heads) (bucket_of (vec_len d.heads) bs) (texts_in d)
head_read d bs b h lt is read =
    read ∙ get_or_default (vec_items d.heads) b h None (omega (arith, d.heads.ok.0)) ∙ d.headed b lt ∙ ap (λ k. latest (vec_len d.heads) k (texts_in d)) is

pub push_reserved-requires : goal.push_reserved-requires
push_reserved-requires c =
    let d = c.args.self.now in
    let f = fit_parts d c.args.bytes.now c.requires.fits in
    omega (arith, f.entry, slots_long d, d.entries_reserved)

pub invariant_of-self : goal.invariant_of-self
invariant_of-self c =
    let d = c.args.self.now in
    let bs = c.args.bytes.now in
    let f = fit_parts d bs c.requires.fits in
    let area = c.extend_reserved.ensures in
    let slots = c.push_reserved.ensures in
    let b = c.bucket-which.ensures.is ∙ ap (λ n. bucket_of n bs) c.len.ensures in
    let lt : c.bucket-which.result < vec_len d.heads = omega (arith, c.bucket-which.ensures.below, c.len.ensures) in
    let s : Slot = record { start = c.len-2.result; len = length bs; next = c.index.result.now } in
    let start : s.start ≡ vec_len d.area = c.len-2.ensures in
    let next : s.next ≡ latest (vec_len d.heads) (bucket_of (vec_len d.heads) bs) (texts_in d) = head_read d bs c.bucket-which.result c.index.result.now lt b c.index.ensures in
    record {
      within = omega (arith, area.len, f.bytes, d.whole);
      reserved = omega (arith, area.capacity, d.reserved);
      few = d.few;
      entries_within = omega (arith, slots.len, f.entry, slots_long d);
      entries_reserved = omega (arith, slots.capacity, d.entries_reserved);
      entries_few = d.entries_few;
      some = d.some;
      placed = new_placed d bs s _ _ start refl area.items slots.items _ area.len;
      whole = new_whole d bs s _ _ start refl area.items slots.items _ area.len;
      once = new_once d bs s _ _ start refl area.items slots.items c.requires.new;
      opens = new_opens d bs s _ _ start refl area.items slots.items;
      headed = new_headed d bs s _ _ start refl area.items slots.items _ _ b c.len-place.ensures;
      linked = new_linked d bs s _ _ start refl area.items slots.items next;
    }

pub returns : goal.returns
returns c =
    let d = c.args.self.now in
    let bs = c.args.bytes.now in
    let s : Slot = record { start = c.len-2.result; len = length bs; next = c.index.result.now } in
    record {
      number = ap (λ (n : ℕ). record { number = n }) (c.from.ensures ∙ c.len-place.ensures ∙ sym (slots_long d));
      texts = new_texts d bs s _ _ c.len-2.ensures refl c.extend_reserved.ensures.items c.push_reserved.ensures.items;
      limit = refl;
      buckets = refl;
    }
