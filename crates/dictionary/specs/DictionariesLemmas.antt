-- A dictionary's put is a stock's: the text answered reads as the bytes given, and nothing is forgotten.
use Rattle.std.specs.Prelude.{◌≡◌, ℕ, ◌<◌, Bool, true, false, cond, ◌||◌, List, [], ◌∷◌, ◌++◌, length, get_or, take, is_some, Some, None, Option, Result, nat_lt, slice_index_or, refl}
use Rattle.std.proofs.Common.{sym, ap, subst, ◌∙◌, arith}
use Rattle.std.proofs.lemmas.Slice.Eq.{bytes_eq-Decides}
use Rattle.std.proofs.lemmas.List.{length-append, length-take, get_or_append_left, get_or_push, get_or_past, get_or-take}
use Rattle.std.proofs.lemmas.Bool.{ltb-true, ltb-false, lt-ltb}
use Rattle.std.specs.Str.{bytes_eq}
use Rattle.texts.specs.declared.stock.Text.{Text}
use Rattle.texts.specs.declared.stock.StockFault.{StockFault}
use Rattle.texts.specs.declared.stock.WellKnown.{WellKnown}
use Rattle.texts.specs.declared.stock.WellKnown.TheVariants.{TopLevel}
use Rattle.texts.specs.Outcomes.{leaves, answers, Came}
use Rattle.texts.specs.Outcomes.Outcome.{taken, refused}
use Rattle.texts.specs.Stocks.{Texts, Sound, Keeps, Put, spelling, fault_of_put}
use Rattle.dictionary.specs.Dictionaries.{place_of, fits_in, entry_held, first_entries, dictionary_texts, dictionary_room, put_at, dictionary_put}
use Rattle.dictionary.specs.PlacesLemmas.{last_place-hit}

keeps_itself : (s : Texts) → Keeps s s
keeps_itself s = record { known = λ t k. k; reads = λ t k. refl; held = λ w. refl }

module _ (ts : List (List ℕ)) (bs : List ℕ) where
  keeps_more : Keeps (dictionary_texts ts) (dictionary_texts (ts ++ bs ∷ []))
  keeps_more = record {
    known = λ t k. lt-ltb _ _ (omega (arith, ltb-true t.number (length ts) k, length-append ts (bs ∷ [])));
    reads = λ t k. get_or_append_left ts (bs ∷ []) [] t.number (ltb-true _ _ k);
    held = λ w. refl;
  }

  module _ (limit entries : ℕ) where
    fresh_at : (b : Bool) → fits_in limit entries ts bs ≡ b → (room : Bool) → room ≡ b → Put (dictionary_texts ts) (dictionary_texts (leaves {R = Text} ts (cond b (taken (ts ++ bs ∷ []) (record { number = length ts })) (refused (fault_of_put (length bs)))))) room bs (answers {X = List (List ℕ)} {R = Text} (cond b (taken (ts ++ bs ∷ []) (record { number = length ts })) (refused (fault_of_put (length bs)))))
    fresh_at true e room r = (r, lt-ltb _ _ (omega (arith, length-append ts (bs ∷ []))), get_or_push ts bs [] (length ts) refl, keeps_more)
    fresh_at false e room r = (r, refl, refl)

    put_means_at : (o : Option ℕ) → place_of ts bs ≡ o → Put (dictionary_texts ts) (dictionary_texts (leaves ts (put_at limit entries ts bs o))) (is_some o || fits_in limit entries ts bs) bs (answers (put_at limit entries ts bs o))
    put_means_at (Some i) e =
        let hit = last_place-hit (λ t. bytes_eq t bs) ts i e in
        (refl, lt-ltb _ _ hit.below, (bytes_eq-Decides _ _).0 (hit.passes []), keeps_itself (dictionary_texts ts))
    put_means_at None e = fresh_at (fits_in limit entries ts bs) refl (fits_in limit entries ts bs) refl

    pub dictionary_put-means : (after : List (List ℕ)) (r : Result Text StockFault) → Came (dictionary_put limit entries ts bs) ts after r → Put (dictionary_texts ts) (dictionary_texts after) (dictionary_room limit entries ts bs) bs r
    dictionary_put-means after r came =
        subst (λ s. Put (dictionary_texts ts) (dictionary_texts after) (dictionary_room limit entries ts bs) bs s) (sym came.told)
        (subst (λ l. Put (dictionary_texts ts) (dictionary_texts l) (dictionary_room limit entries ts bs) bs (answers (dictionary_put limit entries ts bs))) (sym came.left) (put_means_at (place_of ts bs) refl))

-- a dictionary that begins with the well-known texts is a sound stock
module _ (ts : List (List ℕ)) (opens : take (length first_entries) ts ≡ first_entries) where
  first_below : 0 < length ts
  first_below = omega (arith, length-take (length first_entries) ts, ap length opens)

  pub dictionary_sound : Sound (dictionary_texts ts)
  dictionary_sound = record {
    unknown = λ t k. get_or_past ts t.number [] (ltb-false _ _ k);
    held_known = held_known;
    held_reads = held_reads;
  }
    where
      held_known : (w : WellKnown) → nat_lt (entry_held w).number (length ts) ≡ true
      held_known TopLevel = lt-ltb _ _ first_below

      held_reads : (w : WellKnown) → slice_index_or ts (entry_held w).number [] ≡ spelling w
      held_reads TopLevel = sym (get_or-take (length first_entries) ts 0 [] (omega arith)) ∙ ap (λ us. get_or us 0 []) opens
