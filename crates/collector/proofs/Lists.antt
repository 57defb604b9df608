-- Lists that grow at their ends, and lists by place.
use Rattle.std.proofs.Common.{◌≡◌, ◌⊎◌, ℕ, zero, suc, ◌+◌, ◌<◌, ◌≤◌, List, [], ◌∷◌, ◌++◌, map, length, drop, Some, refl, sym, ◌∙◌, ap, subst, ⊎_elim, arith, slice_get}
use Rattle.std.specs.List.{range_with_len}
use Rattle.chunk_core.specs.Lists.{IsAmong}
use Rattle.chunk_core.specs.Lists.IsAmong.{here, there}
use Rattle.chunk_core.proofs.Members.{among_cons, among_nil}
use Rattle.res_ledger.specs.declared.event.What.TheVariants.{Acquire}
use Rattle.row_seat.specs.Views.{run}
use Rattle.outer_tables.specs.Rows.{acquires}
use Rattle.res_ledger.proofs.Mapped.{among_map}
use Rattle.run_rules.specs.Facts.{at}

module _ {A : Type 0} where
  -- one more
  pub snoc_length : (xs : List A) (x : A) → length (xs ++ x ∷ []) ≡ suc (length xs)
  snoc_length [] x = refl
  snoc_length (y ∷ xs) x = ap suc (snoc_length xs x)

  -- the last is there
  pub at_last : (xs : List A) (x : A) → at (xs ++ x ∷ []) (length xs) ≡ Some x
  at_last [] x = refl
  at_last (y ∷ xs) x = at_last xs x

  -- there is one at each place below the length
  pub there_is : (xs : List A) (k : ℕ) → k < length xs → (x : A) × (slice_get xs k ≡ Some x)
  there_is [] k l = absurd (omega arith)
  there_is (x ∷ xs) zero l = (x, refl)
  there_is (x ∷ xs) (suc k) l = there_is xs k (omega arith)

  pub below_is : (xs : List A) (k : ℕ) (x : A) → slice_get xs k ≡ Some x → k < length xs
  below_is [] k x e = cc
  below_is (y ∷ xs) zero x e = omega arith
  below_is (y ∷ xs) (suc k) x e = let l = below_is xs k x e in omega arith

  -- what is left from a place on begins with what stands there
  pub drop_at : (xs : List A) (k : ℕ) (x : A) → slice_get xs k ≡ Some x → drop k xs ≡ x ∷ drop (suc k) xs
  drop_at [] k x e = cc
  drop_at (y ∷ xs) zero x e = let same : y ≡ x = cc in ap (λ z. z ∷ xs) same
  drop_at (y ∷ xs) (suc k) x e = drop_at xs k x e

  pub nothing_left : (xs : List A) → length xs ≤ 0 → xs ≡ []
  nothing_left [] l = refl
  nothing_left (x ∷ xs) l = absurd (omega arith)

-- where nothing was popped nothing was there
pub nothing_popped : {A : Type 0} (xs ys : List A) → xs ≡ ys → ys ≡ drop 1 xs → length ys ≡ 0
nothing_popped [] ys e d = ap (λ (l : List _). length l) (sym e)
nothing_popped (x ∷ xs) ys e d = let l = ap (λ (z : List _). length z) e in let m = ap (λ (z : List _). length z) d in omega (arith, l, m)

-- as many as before
pub map_length : {A B : Type 0} (f : A → B) (xs : List A) → length (map f xs) ≡ length xs
map_length f [] = refl
map_length f (x ∷ xs) = ap suc (map_length f xs)

pub map_snoc : {A B : Type 0} (f : A → B) (xs : List A) (x : A) → map f (xs ++ x ∷ []) ≡ map f xs ++ f x ∷ []
map_snoc f [] x = refl
map_snoc f (y ∷ xs) x = ap (λ l. f y ∷ l) (map_snoc f xs x)

-- the bounds of a row of a run
pub run_within : (n k r : ℕ) → IsAmong r (run n k) → (n ≤ r) × (r < n + k)
run_within n zero r m = absurd (among_nil m)
run_within n (suc k) r m = ⊎_elim (λ e. (omega arith, omega arith)) (λ i. let w = run_within (suc n) k r i in let low = w.0 in let high = w.1 in (omega arith, omega arith)) (among_cons m)

pub run_there : (n k r : ℕ) → n ≤ r → r < n + k → IsAmong r (run n k)
run_there n zero r low high = absurd (omega arith)
run_there n (suc k) r low high = ⊎_elim (λ (e : r ≡ n). subst (λ q. IsAmong q (n ∷ run (suc n) k)) (sym e) (here (run (suc n) k))) (λ (l : suc n ≤ r). there n (run_there (suc n) k r l (omega arith))) (first r n low)
  where
    first : (r n : ℕ) → n ≤ r → (r ≡ n) ⊎ (suc n ≤ r)
    first r n l = grind arith

pub run_length : (n k : ℕ) → length (run n k) ≡ k
run_length n zero = refl
run_length n (suc k) = ap suc (run_length (suc n) k)

-- a row that is acquired in a scope is one of those
pub acquired_within : (c n k r s : ℕ) → IsAmong (Acquire r s) (acquires c n k) → (n ≤ r) × (r < n + k)
acquired_within c n k r s m =
    let x = among_map (λ q. Acquire q c) (Acquire r s) (run n k) m in
    let same : Acquire x.0 c ≡ Acquire r s = x.2 in
    let is : x.0 ≡ r = cc in
    subst (λ q. (n ≤ q) × (q < n + k)) is (run_within n k x.0 x.1)

-- a run in two parts
pub run_split : (n k d : ℕ) → run n (k + d) ≡ run n k ++ run (n + k) d
run_split n zero d =
    let z : 0 + d ≡ d = omega arith in
    let y : n + 0 ≡ n = omega arith in
    ap (λ m. run n m) z ∙ sym (ap (λ m. run m d) y)
run_split n (suc k) d =
    let z : suc k + d ≡ suc (k + d) = omega arith in
    let y : suc n + k ≡ n + suc k = omega arith in
    ap (λ m. run n m) z ∙ ap (λ l. n ∷ l) (run_split (suc n) k d ∙ ap (λ m. run (suc n) k ++ run m d) y)

-- it is a range
pub run_range : (n k : ℕ) → run n k ≡ range_with_len n k
run_range n zero = refl
run_range n (suc k) = let e : suc n ≡ n + 1 = omega arith in ap (λ l. n ∷ l) (run_range (suc n) k ∙ ap (λ m. range_with_len m k) e)
