-- A loop over places, each of which becomes another.
use Rattle.std.proofs.Common.{◌≡◌, ◌≢◌, ℕ, zero, suc, ◌+◌, ◌<◌, ◌≤◌, ◌⊎◌, inl, inr, List, [], ◌∷◌, length, slice_set, slice_index_or, refl, sym, ap, ◌∙◌, subst, ⊎_elim, arith}
use Rattle.std.specs.Prelude.{OnErr, Result, Ok, Err}
use Rattle.std.proofs.lemmas.List.{length-set}
use lib.ListN.{get_elem?}
use mathlib.Core.Option.{some, none, some-injective, some-ne-none}
use Rattle.chunk_core.specs.Totals.{IsAt}
use Rattle.chunk_core.proofs.Places.{at_set}
use Rattle.chunk_core.proofs.Totals.{one_at}
use Rattle.topic_hub.specs.declared.place.Place.{Place}
use Rattle.topic_hub.specs.Places.{Every}

module _ {A : Type 0} where
  pub at_within : (xs : List A) (i : ℕ) (x : A) → IsAt xs i x → i < length xs
  at_within [] i x e = absurd (some-ne-none x (sym e))
  at_within (y ∷ ys) zero x e = omega arith
  at_within (y ∷ ys) (suc i) x e = let l = at_within ys i x e in omega arith

  pub at_read : (xs : List A) (i : ℕ) (x : A) → i < length xs → x ≡ slice_index_or xs i x → IsAt xs i x
  at_read [] i x l e = absurd (omega arith)
  at_read (y ∷ ys) zero x l e = ap some (sym e)
  at_read (y ∷ ys) (suc i) x l e = at_read ys i x (omega arith) e

  pub at_some : (xs : List A) (i : ℕ) → i < length xs → (x : A) × IsAt xs i x
  at_some [] i l = absurd (omega arith)
  at_some (y ∷ ys) zero l = (y, refl)
  at_some (y ∷ ys) (suc i) l = at_some ys i (omega arith)

  pub same_by_place : (xs ys : List A) → length ys ≡ length xs → ((i : ℕ) (x y : A) → IsAt xs i x → IsAt ys i y → y ≡ x) → ys ≡ xs
  same_by_place [] [] l h = refl
  same_by_place [] (y ∷ ys) l h = absurd (omega arith)
  same_by_place (x ∷ xs) [] l h = absurd (omega arith)
  same_by_place (x ∷ xs) (y ∷ ys) l h = ap (λ z. z ∷ ys) (h 0 x y refl refl) ∙ ap (λ l. x ∷ l) (same_by_place xs ys (omega arith) (λ i u v p q. h (suc i) u v p q))

pub on_err : {T E Q : Type 0} (r : Result T E) → Q → OnErr r Q
on_err (Ok x) q = tt
on_err (Err e) q = q

below_or : (i n : ℕ) → (i < n) ⊎ (n ≤ i)
below_or i zero = inr (omega arith)
below_or zero (suc n) = inl (omega arith)
below_or (suc i) (suc n) = ⊎_elim (λ l. inl (omega arith)) (λ l. inr (omega arith)) (below_or i n)

-- as far as the loop has come: the places behind are as they were
pub record Along (R : ℕ → Place → Place → Type 0) (i : ℕ) (a b : List Place) : Type 0 where
  pub same : length b ≡ length a
  pub done : (j : ℕ) (x y : Place) → j < i → IsAt a j x → IsAt b j y → R j x y
  pub rest : (j : ℕ) (y : Place) → i ≤ j → IsAt b j y → IsAt a j y

module _ (R : ℕ → Place → Place → Type 0) where
  pub along_start : (a : List Place) → Along R 0 a a
  along_start a = record { same = refl; done = λ j x y l p q. absurd (omega arith); rest = λ j y l q. q }

  pub along_more : (i : ℕ) (a b : List Place) (x y : Place) → Along R i a b → IsAt b i x → R i x y → Along R (i + 1) a (slice_set b i y)
  along_more i a b x y h at r = record {
    same = length-set b i y ∙ h.same;
    done = λ j u v l p q. ⊎_elim
        (λ t. subst (λ n. R n u v) (sym t.0) (subst (λ z. R i u z) t.1 (subst (λ z. R i z y) (one_at a i x u (h.rest i x (omega arith) at) (subst (λ n. IsAt a n u) t.0 p)) r)))
        (λ t. let n = t.0 in h.done j u v (omega arith) p t.1)
        (at_set b i j y v q);
    rest = λ j v l q. ⊎_elim (λ t. let e = t.0 in absurd (omega arith)) (λ t. h.rest j v (omega arith) t.1) (at_set b i j y v q);
  }

  pub along_weaker : (Q : ℕ → Place → Place → Type 0) → ((i : ℕ) (x y : Place) → R i x y → Q i x y) → (n : ℕ) (a b : List Place) → Along R n a b → Along Q n a b
  along_weaker Q into n a b h = record { same = h.same; done = λ j x y l p q. into j x y (h.done j x y l p q); rest = h.rest }

  pub along_whole : (n : ℕ) (a b : List Place) → Along R n a b → length a ≤ n → Every R a b
  along_whole n a b h l = record { same = h.same; each = λ i x y p q. let w = at_within a i x p in h.done i x y (omega arith) p q }

  -- a loop that ended early
  pub along_left : ((i : ℕ) (x : Place) → R i x x) → (n : ℕ) (a b : List Place) → Along R n a b → Every R a b
  along_left stays n a b h = record {
    same = h.same;
    each = λ i x y p q. ⊎_elim (λ l. h.done i x y l p q) (λ l. subst (λ z. R i x z) (one_at a i x y p (h.rest i y l q)) (stays i x)) (below_or i n);
  }

  pub every_on : (a b : List Place) → Every R a b → (i : ℕ) (x : Place) → IsAt a i x → (y : Place) × IsAt b i y × R i x y
  every_on a b e i x p = let same = e.same in let w = at_within a i x p in let y = at_some b i (omega arith) in (y.0, y.1, e.each i x y.0 p y.1)

  pub every_back : (a b : List Place) → Every R a b → (i : ℕ) (y : Place) → IsAt b i y → (x : Place) × IsAt a i x × R i x y
  every_back a b e i y q = let same = e.same in let w = at_within b i y q in let x = at_some a i (omega arith) in (x.0, x.1, e.each i x.0 y x.1 q)

-- what stands at one place of the same list
pub one_here : {A : Type 0} (xs ys : List A) (i j : ℕ) (x y : A) → xs ≡ ys → i ≡ j → IsAt xs i x → IsAt ys j y → x ≡ y
one_here xs ys i j x y e f p q = one_at ys j x y (subst (λ n. IsAt ys n x) f (subst (λ l. IsAt l i x) e p)) q
