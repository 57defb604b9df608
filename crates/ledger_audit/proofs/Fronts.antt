-- The front of a list up to a place.
use Rattle.std.proofs.Common.{◌≡◌, ℕ, zero, suc, ◌≤◌, ◌+◌, Bool, true, false, cond, filter, List, [], ◌∷◌, ◌++◌, refl, sym, ap, ◌∙◌, ⊎_elim, length, reverse, take, drop, arith, Some, slice_get}
use Rattle.std.proofs.lemmas.List.{reverse-append}
use Rattle.chunk_core.specs.Lists.{has}
use Rattle.chunk_core.proofs.Bools.{fails, no, has_in, in_has}
use Rattle.res_ledger.specs.declared.event.StreamNo.{StreamNo}
use Rattle.res_ledger.specs.declared.event.Event.{Event}
use Rattle.res_ledger.specs.Own.{own, closes}
use Rattle.res_ledger.proofs.Noted.{closes_notes, notes_closes}
use Rattle.ledger_books.specs.Keyed.{IsUnclosedBefore}
use Rattle.ledger_books.proofs.Placed.{at_among, at_front, at_more, among_at, places}
use Rattle.ledger_audit.specs.Trees.{is_unshut}

pub parts : {A : Type 0} (xs : List A) (n : ℕ) → xs ≡ take n xs ++ drop n xs
parts [] zero = refl
parts [] (suc n) = refl
parts (x ∷ xs) zero = refl
parts (x ∷ xs) (suc n) = ap (λ l. x ∷ l) (parts xs n)

pub front_length : {A : Type 0} (xs : List A) (n : ℕ) → n ≤ length xs → length (take n xs) ≡ n
front_length [] zero l = refl
front_length [] (suc n) l = absurd (omega arith)
front_length (x ∷ xs) zero l = refl
front_length (x ∷ xs) (suc n) l = let e = front_length xs n (omega arith) in ap suc e

take_suc : {A : Type 0} (xs : List A) (n : ℕ) (x : A) → slice_get xs n ≡ Some x → take (suc n) xs ≡ take n xs ++ x ∷ []
take_suc [] n x h = cc
take_suc (y ∷ xs) zero x h = let e : y ≡ x = cc in ap (λ z. z ∷ []) e
take_suc (y ∷ xs) (suc n) x h = ap (λ l. y ∷ l) (take_suc xs n x h)

-- one element more
pub take_more : {A : Type 0} (xs : List A) (n : ℕ) (x : A) → slice_get xs n ≡ Some x → take (n + 1) xs ≡ take n xs ++ x ∷ []
take_more xs n x h = let e : n + 1 ≡ suc n = omega arith in ap (λ m. take m xs) e ∙ take_suc xs n x h

drop_suc : {A : Type 0} (xs : List A) (n : ℕ) (x : A) → slice_get xs n ≡ Some x → drop n xs ≡ x ∷ drop (suc n) xs
drop_suc [] n x h = cc
drop_suc (y ∷ xs) zero x h = let e : y ≡ x = cc in ap (λ z. z ∷ xs) e
drop_suc (y ∷ xs) (suc n) x h = drop_suc xs n x h

pub drop_more : {A : Type 0} (xs : List A) (n m : ℕ) (x : A) → m ≡ n + 1 → slice_get xs n ≡ Some x → drop n xs ≡ x ∷ drop m xs
drop_more xs n m x e h = let f : suc n ≡ m = omega arith in drop_suc xs n x h ∙ ap (λ k. x ∷ drop k xs) f

pub take_whole : {A : Type 0} (xs : List A) (n : ℕ) → length xs ≤ n → take n xs ≡ xs
take_whole [] zero l = refl
take_whole [] (suc n) l = refl
take_whole (x ∷ xs) zero l = absurd (omega arith)
take_whole (x ∷ xs) (suc n) l = ap (λ l. x ∷ l) (take_whole xs n (omega arith))

pub drop_whole : {A : Type 0} (xs : List A) (n : ℕ) → length xs ≤ n → drop n xs ≡ []
drop_whole [] zero l = refl
drop_whole [] (suc n) l = refl
drop_whole (x ∷ xs) zero l = absurd (omega arith)
drop_whole (x ∷ xs) (suc n) l = drop_whole xs n (omega arith)

module _ (L : List Event) (k : StreamNo) (c n : ℕ) (within : n ≤ length L) where
  -- no Close of the scope stands in front of the place
  pub unshut : IsUnclosedBefore L k c n → is_unshut (take n L) k c ≡ true
  unshut u = fails (has c (closes (own k (take n L))))
      (λ h. let t = closes_notes (take n L) k c (has_in c (closes (own k (take n L))) h) in
      let p = among_at t.1.0 (take n L) t.1.1 in
      let m = at_more (take n L) (drop n L) p.0 t.1.0 p.1 in
      let l = u p.0 t.0 (t.1.0, ap (λ l. slice_get l p.0) (parts L n) ∙ m.0, t.1.2, t.1.3) in
      let s = m.1 in
      let e = front_length L n within in
      omega (arith, l, s, e))

  pub unshut_so : is_unshut (take n L) k c ≡ true → IsUnclosedBefore L k c n
  unshut_so h m x t = ⊎_elim
      (λ e. omega (arith, e))
      (λ o. ⊎_elim (λ l. omega (arith, l)) (λ l.
      let e = front_length L n within in
      let s : slice_get (take n L) m ≡ Some t.0 = at_front (take n L) (drop n L) m t.0 (omega (arith, l, e)) (ap (λ l. slice_get l m) (sym (parts L n)) ∙ t.1) in
      absurd (no (has c (closes (own k (take n L)))) h (in_has c (closes (own k (take n L))) (notes_closes (take n L) k c (x, (t.0, at_among (take n L) m t.0 s, t.2, t.3)))))) o)
      (places n m)

-- the next is put in front of those that were taken from behind
pub reverse_more : (p : ℕ → Bool) (xs : List ℕ) (n m x : ℕ) → m ≡ n + 1 → slice_get xs n ≡ Some x → p x ≡ true → reverse (filter p (drop n xs)) ≡ reverse (filter p (drop m xs)) ++ x ∷ []
reverse_more p xs n m x e h q =
    ap (λ l. reverse (filter p l)) (drop_more xs n m x e h)
    ∙ ap (λ b. reverse (cond b (x ∷ filter p (drop m xs)) (filter p (drop m xs)))) q
    ∙ reverse-append (x ∷ []) (filter p (drop m xs))

pub reverse_skip : (p : ℕ → Bool) (xs : List ℕ) (n m x : ℕ) → m ≡ n + 1 → slice_get xs n ≡ Some x → p x ≡ false → reverse (filter p (drop n xs)) ≡ reverse (filter p (drop m xs))
reverse_skip p xs n m x e h q =
    ap (λ l. reverse (filter p l)) (drop_more xs n m x e h)
    ∙ ap (λ b. reverse (cond b (x ∷ filter p (drop m xs)) (filter p (drop m xs)))) q
