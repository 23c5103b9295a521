use Rattle.std.proofs.Common.{◌≡◌, ℕ, ◌<◌, false, List, [], length, get_or, take, Some, None, vec_items, vec_len, Option, sym, ap, ◌∙◌, ⊎_elim, arith}
use Rattle.std.proofs.lemmas.Slice.Eq.{slice_eq-Decides, bytes_eq-Decides}
use Rattle.std.proofs.lemmas.List.{length-map, get_or_default}
use Rattle.std.proofs.lemmas.Bool.{both_ways, cases_Bool}
use Rattle.std.specs.Str.{bytes_eq}
use Rattle.dictionary.specs.declared.Dictionary.{Dictionary}
use Rattle.dictionary.specs.Buckets.{bucket_of, latest, slot_bytes}
use Rattle.dictionary.specs.Held.{texts_in}
use Rattle.dictionary.specs.declared.slot.Slot.{Slot}
use Rattle.dictionary.proofs.Chains.{Walk, Stands, walk_begins, walk_stands, walk_found, walk_on, walk_ends, steps_left, steps_fall}
use Rattle.dictionary.proofs.Dictionary.place.Goals as goal
use Rattle.std.proofs.lemmas.Bool.Decides.{Decides-eqb}

differ : (xs ys : List ℕ) → (xs ≡ ys → ⊥) → bytes_eq xs ys ≡ false
differ xs ys ne = ⊎_elim (λ e. absurd (ne ((bytes_eq-Decides xs ys).0 e))) (λ e. e) (cases_Bool (bytes_eq xs ys))

pub loop-at-init : goal.loop-at-init
loop-at-init c =
    let d = c.args.self.now in
    let size = c.len.ensures in
    let b = c.bucket.ensures.is ∙ ap (λ n. bucket_of n c.args.bytes.now) size in
    let lt : c.bucket.result < vec_len d.heads = omega (arith, c.bucket.ensures.below, size) in
    walk_begins _ (texts_in d) c.args.bytes.now _
    (c.index-at.ensures
    ∙ get_or_default (vec_items d.heads) c.bucket.result _ None (omega (arith, d.heads.ok.0))
    ∙ d.headed c.bucket.result lt
    ∙ ap (λ k. latest (vec_len d.heads) k (texts_in d)) b)

module _ (d : Dictionary) (bs : List ℕ) (i : ℕ) (at : Option ℕ) (e : at ≡ Some i) (w : Walk (vec_len d.heads) (texts_in d) bs at) where
  stands : Stands (vec_len d.heads) (texts_in d) bs i
  stands = walk_stands (vec_len d.heads) (texts_in d) bs i at e w

  within : i < vec_len d.slots
  within = omega (arith, stands.below, length-map (vec_items d.slots) (slot_bytes (vec_items d.area)), d.slots.ok.0)

  -- the link of the entry that was read
  linked_to : (s : Slot) → s ≡ get_or (vec_items d.slots) i s → s.next ≡ latest (vec_len d.heads) (bucket_of (vec_len d.heads) (get_or (texts_in d) i [])) (take i (texts_in d))
  linked_to s read = let lt : i < length (vec_items d.slots) = omega (arith, within, d.slots.ok.0) in ap (λ (r : Slot). r.next) read ∙ d.linked i s lt

pub index-requires : goal.index-requires
index-requires c = within c.args.self.now c.args.bytes.now c.in-Some.i c.loop-at.at c.in-Some.is c.loop-at.invariant

pub returns-then-eq : goal.returns-then-eq
returns-then-eq c =
    walk_found _ _ _ c.in-Some.i (stands c.args.self.now c.args.bytes.now c.in-Some.i c.loop-at.at c.in-Some.is c.loop-at.invariant)
    (sym c.text_at.ensures ∙ (slice_eq-Decides Decides-eqb _ _ _ c.eq.ensures).0 c.if-eq.true)

pub loop-at-smaller : goal.loop-at-smaller
loop-at-smaller c =
    let d = c.args.self.now in
    let falls = steps_fall _ _ c.in-Some.i _ _ (linked_to d c.args.bytes.now c.in-Some.i c.loop-at.at c.in-Some.is c.loop-at.invariant c.index.result.now c.index.ensures) in
    omega (arith, falls, ap steps_left c.in-Some.is)

pub loop-at-preserved : goal.loop-at-preserved
loop-at-preserved c =
    let d = c.args.self.now in
    let other : (get_or (texts_in d) c.in-Some.i [] ≡ c.args.bytes.now → ⊥) = λ same. both_ways _ c.if-eq.false ((slice_eq-Decides Decides-eqb _ _ _ c.eq.ensures).1 (c.text_at.ensures ∙ same)) in
    walk_on _ _ _ c.in-Some.i _ (stands d c.args.bytes.now c.in-Some.i c.loop-at.at c.in-Some.is c.loop-at.invariant)
    (differ _ _ other)
    (linked_to d c.args.bytes.now c.in-Some.i c.loop-at.at c.in-Some.is c.loop-at.invariant c.index.result.now c.index.ensures)

pub returns : goal.returns
returns c = walk_ends _ _ _ c.loop-at.at c.in_default.is c.loop-at.invariant
