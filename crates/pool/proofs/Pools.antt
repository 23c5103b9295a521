-- A pool's put is a stock's: the new text reads as the bytes given, and nothing is forgotten.
use Rattle.std.proofs.Common.{◌≡◌, ℕ, ◌+◌, ◌≤◌, Bool, true, false, cond, leb, List, [], ◌++◌, length, take, drop, Result, sym, refl, ap, ◌∙◌, subst, arith}
use Rattle.std.proofs.lemmas.List.{length-append, take-append-le, drop-append-le, drop_at, take_all, length-drop}
use Rattle.std.proofs.lemmas.Bool.{cases_Bool, leb-true}
use Rattle.std.proofs.lemmas.Bool.Decides.{nat_tests}
use Rattle.texts.specs.declared.stock.Text.{Text}
use Rattle.texts.specs.declared.stock.StockFault.{StockFault}
use Rattle.texts.specs.Outcomes.{leaves, answers, Came}
use Rattle.texts.specs.Outcomes.Outcome.{taken, refused}
use Rattle.texts.specs.Stocks.{Put, longest, fault_of_put}
use Rattle.pool.specs.Pools.{start_of, length_of, text_at, in_pool, pool_bytes, pool_texts, pool_room, pool_put}

pub start_at : (start len : ℕ) → len ≤ longest → start_of (text_at start len) ≡ start
start_at start len small = omega arith

pub length_at : (start len : ℕ) → len ≤ longest → length_of (text_at start len) ≡ len
length_at start len small = omega arith

module _ (area bs : List ℕ) where
  -- a known text stays known, and reads as before
  pub stays_known : (t : Text) → in_pool area t ≡ true → in_pool (area ++ bs) t ≡ true
  stays_known t k = grind (arith, nat_tests, length-append area bs)

  stays_inside : (t : Text) → in_pool area t ≡ true → take (length_of t) (drop (start_of t) (area ++ bs)) ≡ take (length_of t) (drop (start_of t) area)
  stays_inside t k =
      let fits : start_of t + length_of t ≤ length area = leb-true _ _ k in
      ap (take (length_of t)) (drop-append-le (start_of t) area bs (omega arith)) ∙ take-append-le (length_of t) (drop (start_of t) area) bs (simp length-drop (omega arith))

  pub stays_read : (t : Text) → in_pool area t ≡ true → pool_bytes (area ++ bs) t ≡ pool_bytes area t
  stays_read t k =
      ap (λ b. cond b (take (length_of t) (drop (start_of t) (area ++ bs))) []) (stays_known t k)
      ∙ stays_inside t k
      ∙ ap (λ b. cond b (take (length_of t) (drop (start_of t) area)) []) (sym k)

  module _ (small : length bs ≤ longest) where
    pub new_known : in_pool (area ++ bs) (text_at (length area) (length bs)) ≡ true
    new_known = grind (arith, nat_tests, length-append area bs, start_at (length area) (length bs) small, length_at (length area) (length bs) small)

    pub new_reads : pool_bytes (area ++ bs) (text_at (length area) (length bs)) ≡ bs
    new_reads =
        ap (λ b. cond b (take (length_of (text_at (length area) (length bs))) (drop (start_of (text_at (length area) (length bs))) (area ++ bs))) []) new_known
        ∙ ap (λ n. take n (drop (start_of (text_at (length area) (length bs))) (area ++ bs))) (length_at (length area) (length bs) small)
        ∙ ap (λ n. take (length bs) (drop n (area ++ bs))) (start_at (length area) (length bs) small)
        ∙ ap (take (length bs)) (drop_at area bs (length area) refl)
        ∙ take_all (length bs) bs (omega arith)

module _ (limit : ℕ) (area bs : List ℕ) where
  -- a put of a pool is a put of a stock
  put_at : (b : Bool) → pool_room limit area bs ≡ b → Put (pool_texts area) (pool_texts (leaves area (cond b (taken (area ++ bs) (text_at (length area) (length bs))) (refused (fault_of_put (length bs)))))) (pool_room limit area bs) bs (answers {X = List ℕ} (cond b (taken (area ++ bs) (text_at (length area) (length bs))) (refused (fault_of_put (length bs)))))
  put_at true e =
      let small : length bs ≤ longest = leb-true _ _ (grind (arith, nat_tests, cases_Bool (leb (length bs) longest))) in
      (e, new_known area bs small, new_reads area bs small, record { known = stays_known area bs; reads = stays_read area bs; held = λ _. refl })
  put_at false e = (e, refl, refl)

  pub pool_put-means : (after : List ℕ) (r : Result Text StockFault) → Came (pool_put limit area bs) area after r → Put (pool_texts area) (pool_texts after) (pool_room limit area bs) bs r
  pool_put-means after r came =
      subst (λ s. Put (pool_texts area) (pool_texts after) (pool_room limit area bs) bs s) (sym came.told)
      (subst (λ l. Put (pool_texts area) (pool_texts l) (pool_room limit area bs) bs (answers (pool_put limit area bs))) (sym came.left) (put_at (pool_room limit area bs) refl))
