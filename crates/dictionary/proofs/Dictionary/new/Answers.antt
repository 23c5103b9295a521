use Rattle.std.proofs.Common.{◌≡◌, ℕ, List, [], ◌∷◌, ◌++◌, length, get_or, take, set, replicate, Some, None, vec_items, vec_len, Option, sym, refl, ap, ◌∙◌, subst, arith, rules}
use Rattle.std.proofs.lemmas.List.{get_or-replicate}
use Rattle.dictionary.specs.declared.slot.Slot.{Slot}
use Rattle.texts.specs.declared.stock.WellKnown.TheVariants.{TopLevel}
use Rattle.texts.specs.Stocks.{spelling}
use Rattle.dictionary.specs.Dictionaries.{total, apart, first_entries}
use Rattle.dictionary.specs.Buckets.{held_texts, slots_within, bucket_of, HeadsRight, LinksRight}
use Rattle.dictionary.proofs.Grows.{heads_grow, links_grow}
use Rattle.dictionary.proofs.Dictionary.new.Goals as goal

-- the one entry, and the texts that it makes
abbrev first_slot : Slot
first_slot = record { start = 0; len = 10; next = None }

module _ (area : List ℕ) (slots : List Slot) (a : area ≡ spelling TopLevel) (s : slots ≡ first_slot ∷ []) where
  first-texts : held_texts area slots ≡ first_entries
  first-texts = ap (λ xs. held_texts xs slots) a ∙ ap (held_texts (spelling TopLevel)) s

  module _ (size : ℕ) where
    first-headed : (heads : List (Option ℕ)) (b : ℕ) → heads ≡ replicate size None → length heads ≡ size → b ≡ bucket_of size (spelling TopLevel) → HeadsRight size (set heads b (Some 0)) (held_texts area slots)
    first-headed heads b none long is =
        subst (HeadsRight size (set heads b (Some 0))) (sym first-texts)
        (heads_grow size [] (spelling TopLevel) heads b (λ k lt. ap (λ hs. get_or hs k None) none ∙ get_or-replicate size k None None lt) long is)

    first-linked : LinksRight size slots (held_texts area slots)
    first-linked =
        subst (λ ss. LinksRight size ss (held_texts area slots)) (sym s)
        (subst (LinksRight size (first_slot ∷ [])) (sym first-texts)
        (links_grow size [] (spelling TopLevel) [] first_slot (λ i d lt. absurd (omega arith)) refl refl))

pub invariant_of-result : goal.invariant_of-result
invariant_of-result c =
    let first = c.bytes-first.ensures in
    let area = c.extend_reserved.ensures in
    let slots = c.push_reserved.ensures in
    let long : length c.bytes-first.result.now ≡ 10 = ap length first in
    let a : vec_items c.extend_reserved.new.area ≡ spelling TopLevel = area.items ∙ ap (λ xs. xs ++ c.bytes-first.result.now) c.in_ok-area.ensures.items ∙ first in
    let s : vec_items c.push_reserved.new.self ≡ first_slot ∷ [] =
    slots.items ∙ ap (λ xs. xs ++ record { start = 0; len = length c.bytes-first.result.now; next = None } ∷ []) c.in_ok-slots.ensures.items ∙ ap (λ n. record { start = 0; len = n; next = None } ∷ []) long in
    let none : vec_items c.in_ok-heads.heads ≡ replicate (vec_len c.in_ok-heads.heads) None = search rules in
    let size : c.min-buckets.result ≡ vec_len c.in_ok-heads.heads = search rules in
    let texts = first-texts _ _ a s in
    let used : vec_len c.extend_reserved.new.area ≡ 10 = c.extend_reserved.new.area.ok.0 ∙ ap length a in
    let count : vec_len c.push_reserved.new.self ≡ 1 = c.push_reserved.new.self.ok.0 ∙ ap length s in
    record {
      within = omega (arith, used, long, c.if-limit-first.false);
      reserved = omega (arith, area.capacity, c.in_ok-area.ensures.capacity);
      few = omega (arith, c.min-limit.ensures);
      entries_within = omega (arith, count, size, c.if-buckets-lt1.false);
      entries_reserved = omega (arith, slots.capacity, c.in_ok-slots.ensures.capacity, size);
      entries_few = omega (arith, c.min-buckets.ensures, size);
      some = omega (arith, size, c.if-buckets-lt1.false);
      placed = ap (λ n. slots_within n (vec_items c.push_reserved.new.self)) used ∙ ap (slots_within 10) s;
      whole = ap total texts ∙ sym used;
      once = ap apart texts;
      opens = ap (take (length first_entries)) texts;
      headed = first-headed _ _ a s _ (vec_items c.in_ok-heads.heads) _ none (sym c.in_ok-heads.heads.ok.0) (c.bucket.ensures.is ∙ ap (λ n. bucket_of n c.bytes-first.result.now) size ∙ ap (bucket_of (vec_len c.in_ok-heads.heads)) first);
      linked = first-linked _ _ a s _;
    }
