-- A buffer that grows piece by piece.
use Rattle.std.proofs.Common.{◌≡◌, ℕ, ◌+◌, ◌<◌, true, List, [], ◌++◌, length, get_or, take, is_err, Result, sym, refl, ap, ◌∙◌, subst, append_assoc, append-nil, arith}
use Rattle.std.proofs.lemmas.List.{take_more, flat_map_more, take_at, take-take, length-append}
use Rattle.std.proofs.lemmas.Result.{MatchResult-weaker, MatchResult-from_err}
use Rattle.std.specs.List.{flat_map}
use Rattle.std.specs.declared.alloc.AllocError.{AllocError}
use Rattle.session.specs.Buffers.{Grown}

-- what was there still stands at the front
pub front-stays : (old more new : List ℕ) → new ≡ old ++ more → take (length old) new ≡ old
front-stays old more new is = ap (take (length old)) is ∙ take_at old more (length old) refl

front-within : (old more new : List ℕ) → take (length (old ++ more)) new ≡ old ++ more → take (length old) new ≡ old
front-within old more new is =
    sym (take-take (length old) (length (old ++ more)) new (omega (arith, length-append old more)))
    ∙ front-stays old more (take (length (old ++ more)) new) is

-- two pieces, one after the other
pub joins : (old front mid back new word : List ℕ) → mid ≡ old ++ front → new ≡ mid ++ back → word ≡ front ++ back → new ≡ old ++ word
joins old front mid back new word first then whole = then ∙ ap (λ xs. xs ++ back) first ∙ append_assoc old front back ∙ ap (λ xs. old ++ xs) (sym whole)

-- the pieces of one more element
pub joined_step : {X : Type 0} (f : X → List ℕ) (xs : List X) (i : ℕ) (d : X) → i < length xs → flat_map f (take (i + 1) xs) ≡ flat_map f (take i xs) ++ f (get_or xs i d)
joined_step f xs i d lt = ap (flat_map f) (take_more xs i d lt) ∙ sym (flat_map_more f [] (take i xs) (get_or xs i d))

-- memory gave out after a part, and within what followed it
pub grown_broke : (r : Result (Unit {0}) AllocError) (old word part mid new : List ℕ) → is_err r ≡ true → mid ≡ old ++ part → take (length mid) new ≡ mid → Grown r old word new
grown_broke r old word part mid new failed first stays =
    MatchResult-from_err r _ _ failed (λ _. front-within old part new (subst (λ xs. take (length xs) new ≡ xs) first stays))

-- memory gave out after a part
pub grown_part : (r : Result (Unit {0}) AllocError) (old word part new : List ℕ) → is_err r ≡ true → new ≡ old ++ part → Grown r old word new
grown_part r old word part new failed is = MatchResult-from_err r _ _ failed (λ _. front-stays old part new is)

pub grown_none : (r : Result (Unit {0}) AllocError) (old word new : List ℕ) → is_err r ≡ true → new ≡ old → Grown r old word new
grown_none r old word new failed is = grown_part r old word [] new failed (is ∙ sym (append-nil old))

-- a part, and then the rest or what of it found memory
pub grown_on : (r : Result (Unit {0}) AllocError) (old part mid word new : List ℕ) → mid ≡ old ++ part → Grown r mid word new → Grown r old (part ++ word) new
grown_on r old part mid word new first then =
    MatchResult-weaker r then
    (λ _ is. is ∙ ap (λ xs. xs ++ word) first ∙ append_assoc old part word)
    (λ _ is. front-within old part new (subst (λ xs. take (length xs) new ≡ xs) first is))
