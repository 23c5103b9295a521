-- Flags that are right stay right.
use Rattle.std.proofs.Common.{◌≡◌, ℕ, zero, suc, ◌-◌, Bool, true, false, cond, not, ◌&&◌, ◌||◌, ltb, List, [], ◌∷◌, map, reverse, length, replicate, Some, None, Option, sym, refl, ap, ◌∙◌, subst, arith}
use Rattle.std.specs.List.{AllByRecursion}
use Rattle.std.specs.Str.{bytes_eq}
use Rattle.std.proofs.ByRecursion.{All-weaker, All-push, all_kept_by}
use Rattle.std.proofs.lemmas.Bool.{and_parts}
use Rattle.std.proofs.lemmas.List.{reverse-append}
use Rattle.texts.specs.declared.stock.Text.{Text}
use Rattle.texts.specs.declared.stock.StockFault.TheVariants.{Unknown}
use Rattle.texts.specs.Outcomes.{Outcome, leaves, carry, at_place}
use Rattle.texts.specs.Outcomes.Outcome.{taken, refused}
use Rattle.texts.specs.Stocks.{Texts, Keeps, same_text}
use Rattle.vec_map.specs.declared.entry.Entry.{Entry}
use Rattle.vec_map.specs.declared.fault.MapFault.{MapFault}
use Rattle.vec_map.specs.declared.fault.MapFault.TheVariants.{Stock, Lacks, Full, Twice}
use Rattle.vec_map.specs.Entries.{holds_key, distinct, lasts}
use Rattle.vec_map.specs.Maps.{Map, blank, inserted, removed, tidied, claimed, insert_into}
use Rattle.vec_map.specs.KeysLemmas.{text_equivalence}
use Rattle.vec_map.proofs.Laws.{distinct_without, distinct-dedup}
use Rattle.map_table.specs.declared.table.edits.Edit.{Edit}
use Rattle.map_table.specs.declared.table.edits.Edit.TheVariants.{Insert, Remove, Dedup, Claim}
use Rattle.map_table.proofs.Placed.{leaves-carry}
use Rattle.span.specs.declared.fields.Fields.{Fields}
use Rattle.span.specs.declared.owner.Owner.{Owner}
use Rattle.span.specs.declared.owner.Owner.TheVariants as at
use Rattle.span.specs.declared.value.Value.{Value}
use Rattle.span.specs.Edits.{insert_home, each_map, all_distinct, claim_all, edit_maps}
use Rattle.span.specs.Model.{Maps, Span, Chunk, Batch}
use Rattle.span.specs.Tables.{blank_maps, if_all_known}
use Rattle.span.specs.Views.{View}
use Rattle.span.specs.Views.Kind.{of_span, of_chunk}
use Rattle.batch_tables.specs.declared.fault.BatchFault.{BatchFault}
use Rattle.batch_tables.specs.declared.fault.BatchFault.TheVariants as fault
use Rattle.batch_tables.specs.Batches.{Held, with_batch, told_as, after, with_maps, with_spans, with_own_maps, at_span, to_last, value_texts, edit_texts, edit_known, edit_at, edit_batch, add_chunk, add_span, if_any, all_spans}
use Rattle.batch_tables.specs.Flags.{RightMap, RightMaps, RightChunk, FlagsRight}

-- a stock that keeps all that an earlier one had
module _ (s t : Texts) (keeps : Keeps s t) where
  same_kept : (a b : Text) → s.known a ≡ true → s.known b ≡ true → same_text t a b ≡ same_text s a b
  same_kept a b ka kb = ap (λ x. bytes_eq x (t.bytes b)) (keeps.reads a ka) ∙ ap (λ y. bytes_eq (s.bytes a) y) (keeps.reads b kb)

  holds_kept : {V : Type 0} (es : List (Entry Text V)) (k : Text) → AllByRecursion (λ e. s.known e.key ≡ true) es → s.known k ≡ true → holds_key (same_text t) es k ≡ holds_key (same_text s) es k
  holds_kept [] k all kk = refl
  holds_kept (e ∷ es) k all kk = ap (λ x. x || holds_key (same_text t) es k) (same_kept e.key k all.0 kk) ∙ ap (λ x. same_text s e.key k || x) (holds_kept es k all.1 kk)

  distinct-kept : {V : Type 0} (es : List (Entry Text V)) → AllByRecursion (λ e. s.known e.key ≡ true) es → distinct (same_text t) es ≡ distinct (same_text s) es
  distinct-kept [] all = refl
  distinct-kept (e ∷ es) all = ap (λ x. not x && distinct (same_text t) es) (holds_kept es e.key all.1 all.0) ∙ ap (λ x. not (holds_key (same_text s) es e.key) && x) (distinct-kept es all.1)

  later_map : (m : Map Text Value) → RightMap s m → RightMap t m
  later_map m r = record {
    flag = λ e. distinct-kept m.entries r.known ∙ r.flag e;
    known = All-weaker _ _ (λ e k. keeps.known e.key k) m.entries r.known;
  }

  later_maps : (ms : Maps) → RightMaps s ms → RightMaps t ms
  later_maps ms r = All-weaker _ _ later_map ms r

  pub later : {H O : Type 0} (b : Batch H O) → FlagsRight s b → FlagsRight t b
  later b r = All-weaker _ _ (λ c rc. record { own = later_maps c.maps rc.own; spans = All-weaker _ _ (λ x rx. later_maps x.maps rx) c.spans rc.spans }) b r

-- what holds of each element still holds after a call on one of them that keeps it
module _ {X R F : Type 0} (P : X → Type 0) (none : F) (call : X → Outcome X R F) (keep : (x : X) → P x → P (leaves x (call x))) where
  pub all_at : (xs : List X) (i : ℕ) → AllByRecursion P xs → AllByRecursion P (leaves xs (at_place none call xs i))
  all_at [] i all = tt
  all_at (x ∷ xs) zero all = subst (AllByRecursion P) (sym (leaves-carry (λ y. y ∷ xs) x (call x))) (keep x all.0, all.1)
  all_at (x ∷ xs) (suc i) all = subst (AllByRecursion P) (sym (leaves-carry (λ ys. x ∷ ys) xs (at_place none call xs i))) (all.0, all_at xs i all.1)

pub leaves-told : {X R F G : Type 0} (g : F → G) (x : X) (o : Outcome X R F) → leaves x (told_as g o) ≡ leaves x o
leaves-told g x (taken y a) = refl
leaves-told g x (refused e) = refl

pub leaves_after : {X Y R S F : Type 0} (P : X → Type 0) (k : Outcome Y S F) (x : X) (o : Outcome X R F) → P x → P (leaves x o) → P (leaves x (after k o))
leaves_after P (taken y s) x o before worked = worked
leaves_after P (refused e) x o before worked = before

all_lasts : {V : Type 0} (same : Text → Text → Bool) (P : Entry Text V → Type 0) (es : List (Entry Text V)) → AllByRecursion P es → AllByRecursion P (lasts same es)
all_lasts same P [] all = tt
all_lasts same P (e ∷ es) all = by (holds_key same es e.key) (all_lasts same P es all.1)
  where
    by : (b : Bool) → AllByRecursion P (lasts same es) → AllByRecursion P (cond b (lasts same es) (e ∷ lasts same es))
    by true rest = rest
    by false rest = (all.0, rest)

all_reverse : {X : Type 0} (P : X → Type 0) (xs : List X) → AllByRecursion P xs → AllByRecursion P (reverse xs)
all_reverse P [] all = tt
all_reverse P (x ∷ xs) all = subst (AllByRecursion P) (sym (reverse-append (x ∷ []) xs)) (All-push P (reverse xs) x (all_reverse P xs all.1) all.0)

-- each edit of one map
module _ (t : Texts) where
  not_flagged : {A : Type 0} → ◌≡◌ {A = Bool} false true → A
  not_flagged e = let z : ◌≡◌ {A = ℕ} 0 1 = ap (λ b. cond b 1 0) e in absurd (omega arith)

  right_insert : (places : ℕ) (k : Text) (v : Value) (m : Map Text Value) → t.known k ≡ true → RightMap t m → RightMap t (leaves m (insert_into places k v m))
  right_insert places k v m known r = by (ltb (length m.entries) places)
    where
      by : (b : Bool) → RightMap t (leaves m (cond b (taken (inserted k v m) (tt {0})) (refused Full)))
      by true = record { flag = λ e. not_flagged e; known = All-push _ m.entries (record { key = k; value = v }) r.known known }
      by false = r

  right_removed : (k : Text) (m : Map Text Value) → RightMap t m → RightMap t (removed (same_text t) k m)
  right_removed k m r = record { flag = λ e. distinct_without (same_text t) (text_equivalence t) m.entries k (r.flag e); known = all_kept_by _ _ m.entries r.known }

  right_tidied : (m : Map Text Value) → RightMap t m → RightMap t (tidied (same_text t) m)
  right_tidied m r = by m.deduped refl
    where
      by : (b : Bool) → m.deduped ≡ b → RightMap t (cond b m (record { entries = reverse (lasts (same_text t) m.entries); deduped = true }))
      by true e = r
      by false e = record { flag = λ _. distinct-dedup (same_text t) (text_equivalence t) m.entries; known = all_reverse _ (lasts (same_text t) m.entries) (all_lasts (same_text t) _ m.entries r.known) }

  right_each : (f : Map Text Value → Map Text Value) → ((m : Map Text Value) → RightMap t m → RightMap t (f m)) → (ms : Maps) → RightMaps t ms → RightMaps t (leaves ms (each_map f ms))
  right_each f keep [] r = tt
  right_each f keep (m ∷ ms) r = (keep m r.0, right_all ms r.1)
    where
      right_all : (ns : Maps) → RightMaps t ns → RightMaps t (map f ns)
      right_all [] all = tt
      right_all (n ∷ ns) all = (keep n all.0, right_all ns all.1)

  right_claimed : (ms : Maps) → all_distinct (same_text t) ms ≡ true → RightMaps t ms → RightMaps t (map claimed ms)
  right_claimed [] d r = tt
  right_claimed (m ∷ ms) d r =
      let parts = and_parts (distinct (same_text t) m.entries) (all_distinct (same_text t) ms) d in
      (record { flag = λ _. parts.0; known = r.0.known }, right_claimed ms parts.1 r.1)

  right_claim : (ms : Maps) → RightMaps t ms → RightMaps t (leaves ms (claim_all (same_text t) ms))
  right_claim ms r = by (all_distinct (same_text t) ms) refl
    where
      flagged : (ns : Maps) → all_distinct (same_text t) ns ≡ true → RightMaps t ns → RightMaps t (leaves ns (each_map claimed ns))
      flagged [] d all = tt
      flagged (n ∷ ns) d all = right_claimed (n ∷ ns) d all

      by : (b : Bool) → all_distinct (same_text t) ms ≡ b → RightMaps t (leaves ms (cond b (each_map claimed ms) (refused Twice)))
      by true e = flagged ms e r
      by false e = r

  right_home : (places : ℕ) (home : Option ℕ) (k : Text) (v : Value) (ms : Maps) → t.known k ≡ true → RightMaps t ms → RightMaps t (leaves ms (insert_home places home k v ms))
  right_home places None k v ms known r = r
  right_home places (Some i) k v ms known r = all_at (RightMap t) Lacks (insert_into places k v) (λ m rm. right_insert places k v m known rm) ms i r

  -- an edit that names its texts first
  right_if_known : (k : Text) (ts : List Text) (ms : Maps) (o : Outcome Maps (Unit {0}) MapFault) → RightMaps t ms → (t.known k ≡ true → RightMaps t (leaves ms o)) → RightMaps t (leaves ms (after (told_as Stock (if_all_known t (k ∷ ts))) o))
  right_if_known k ts ms o r worked = by (t.known k) refl
    where
      by : (b : Bool) → t.known k ≡ b → RightMaps t (leaves ms (after (told_as Stock (cond b (if_all_known t ts) (cond b (taken tt tt) (refused (Unknown k))))) o))
      by true e = leaves_after (RightMaps t) (told_as Stock (if_all_known t ts)) ms o r (worked e)
      by false e = r

  right_edit : (places : ℕ) (home : Value → Option ℕ) (e : Edit Value) (ms : Maps) → RightMaps t ms → RightMaps t (leaves ms (after (told_as Stock (if_all_known t (edit_texts e))) (edit_maps (same_text t) places home e ms)))
  right_edit places home (Insert k v) ms r = right_if_known k (value_texts v) ms (insert_home places (home v) k v ms) r (λ known. right_home places (home v) k v ms known r)
  right_edit places home (Remove k) ms r = right_if_known k [] ms (each_map (removed (same_text t) k) ms) r (λ known. right_each (removed (same_text t) k) (right_removed k) ms r)
  right_edit places home Dedup ms r = right_each (tidied (same_text t)) right_tidied ms r
  right_edit places home Claim ms r = right_claim ms r

-- and of one in a batch
module _ {H O : Type 0} (v : View H O) (t : Texts) where
  right_span_call : (places p : ℕ) (e : Edit Value) (s : Span O) → RightMaps t s.maps → RightMaps t (leaves s (carry (with_maps s) (told_as (fault.Map p) (edit_known v t places of_span e s.maps)))).maps
  right_span_call places p e s r =
      let o = edit_known v t places of_span e s.maps in
      subst (λ x. RightMaps t x.maps) (sym (leaves-carry (with_maps s) s.maps (told_as (fault.Map p) o) ∙ ap (with_maps s) (leaves-told (fault.Map p) s.maps o))) (right_edit t places (v.home of_span) e s.maps r)

  right_chunk_call : (places p : ℕ) (e : Edit Value) (c : Chunk H O) → RightChunk t c → RightChunk t (leaves c (carry (with_own_maps c) (told_as (fault.Map p) (edit_known v t places of_chunk e c.maps))))
  right_chunk_call places p e c r =
      let o = edit_known v t places of_chunk e c.maps in
      subst (RightChunk t) (sym (leaves-carry (with_own_maps c) c.maps (told_as (fault.Map p) o) ∙ ap (with_own_maps c) (leaves-told (fault.Map p) c.maps o)))
      (record { own = right_edit t places (v.home of_chunk) e c.maps r.own; spans = r.spans })

  right_at_span : (none : BatchFault) (call : Span O → Outcome (Span O) (Unit {0}) BatchFault) → ((s : Span O) → RightMaps t s.maps → RightMaps t (leaves s (call s)).maps) → (b : Batch H O) (p : ℕ) → FlagsRight t b → FlagsRight t (leaves b (at_span none call b p))
  right_at_span none call keep [] p r = tt
  right_at_span none call keep (c ∷ cs) p r = by (ltb p (length c.spans)) (right_at_span none call keep cs (p - length c.spans) r.1)
    where
      by : (b : Bool) → FlagsRight t (leaves cs (at_span none call cs (p - length c.spans))) → FlagsRight t (leaves (c ∷ cs) (cond b (carry (λ ss. with_spans c ss ∷ cs) (at_place none call c.spans p)) (carry (λ ds. c ∷ ds) (at_span none call cs (p - length c.spans)))))
      by true rest = subst (FlagsRight t) (sym (leaves-carry (λ ss. with_spans c ss ∷ cs) c.spans (at_place none call c.spans p))) (record { own = r.0.own; spans = all_at (λ s. RightMaps t s.maps) none call keep c.spans p r.0.spans }, r.1)
      by false rest = subst (FlagsRight t) (sym (leaves-carry (λ ds. c ∷ ds) cs (at_span none call cs (p - length c.spans)))) (r.0, rest)

  right_edit_at : (places : ℕ) (e : Edit Value) (o : Owner) (b : Batch H O) → FlagsRight t b → FlagsRight t (leaves b (edit_at v t places e o b))
  right_edit_at places e (at.Span p) b r = right_at_span (fault.NoSpan p) _ (right_span_call places p e) b p r
  right_edit_at places e (at.Chunk p) b r = all_at (RightChunk t) (fault.NoChunk p) _ (right_chunk_call places p e) b p r

  -- a call on a batch
  pub right_edit_batch : (e : Edit Value) (o : Owner) (h : Held H O) → FlagsRight t h.batch → FlagsRight t (leaves h (edit_batch v t e o h)).batch
  right_edit_batch e o h r = subst (λ x. FlagsRight t x.batch) (sym (leaves-carry (with_batch h) h.batch (edit_at v t h.stride e o h.batch))) (right_edit_at h.stride e o h.batch r)

  -- blank maps are right
  right_blank : (n : ℕ) → RightMaps t (replicate n blank)
  right_blank zero = tt
  right_blank (suc n) = (record { flag = λ e. not_flagged t e; known = tt }, right_blank n)

  right_to_last : (s : Span O) (b : Batch H O) → RightMaps t s.maps → FlagsRight t b → FlagsRight t (to_last s b)
  right_to_last s [] rs r = tt
  right_to_last s (c ∷ []) rs r = (record { own = r.0.own; spans = All-push (λ x. RightMaps t x.maps) c.spans s r.0.spans rs }, tt)
  right_to_last s (c ∷ (d ∷ ds)) rs r = (r.0, right_to_last s (d ∷ ds) rs r.1)

  -- a call that may be refused on the way, and else leaves a batch whose flags are right
  right_unless : (h : Held H O) (b : Batch H O) (k : Outcome (Unit {0}) (Unit {0}) BatchFault) (free : Bool) → FlagsRight t h.batch → FlagsRight t b → FlagsRight t (leaves h (cond free (after k (taken (with_batch h b) (tt {0}))) (refused fault.Full))).batch
  right_unless h b k true before worked = leaves_after (λ x. FlagsRight t x.batch) k h (taken (with_batch h b) tt) before worked
  right_unless h b k false before worked = before

  right_if_any : (h : Held H O) (b : Batch H O) (o : Outcome (Held H O) (Unit {0}) BatchFault) → FlagsRight t h.batch → FlagsRight t (leaves h o).batch → FlagsRight t (leaves h (if_any b o)).batch
  right_if_any h [] o before worked = before
  right_if_any h (c ∷ cs) o before worked = worked

  pub right_add_chunk : (head : H) (h : Held H O) → FlagsRight t h.batch → FlagsRight t (leaves h (add_chunk v t head h)).batch
  right_add_chunk head h r =
      right_unless h _ (told_as fault.Stock (if_all_known t (v.chunk_texts head))) (ltb (length h.batch) h.room.chunks) r
      (All-push (RightChunk t) h.batch (record { head = head; maps = blank_maps v of_chunk; spans = [] }) r (record { own = right_blank (v.arity of_chunk); spans = tt }))

  pub right_add_span : (f : Fields O) (h : Held H O) → FlagsRight t h.batch → FlagsRight t (leaves h (add_span v t f h)).batch
  right_add_span f h r =
      right_if_any h h.batch _ r
      (right_unless h _ (told_as fault.Stock (if_all_known t (v.span_texts f))) (ltb (length (all_spans h.batch)) h.room.spans) r
      (right_to_last (record { fields = f; maps = blank_maps v of_span }) h.batch (right_blank (v.arity of_span)) r))
