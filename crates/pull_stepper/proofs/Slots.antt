-- The devices that wait in their slots.
use Rattle.std.proofs.Common.{◌≡◌, ◌≢◌, ℕ, zero, suc, ◌+◌, ◌<◌, ◌≤◌, cond, List, [], ◌∷◌, length, slice_index_or, slice_set, Option, Some, None, refl, sym, ap, ◌∙◌, ⊎_elim, arith, eq-eqb, ne_eqb}
use Rattle.std.proofs.lemmas.Bool.{cases_eq}
use Rattle.pull_stepper.specs.Sites.{slot_of}

module _ {V : Type 0} where
  pub slot_here : (p i : ℕ) (x : Option V) (xs : List (Option V)) → i ≡ p → slot_of p i (x ∷ xs) ≡ Some x
  slot_here p i x xs e = ap (λ b. cond b (Some x) (slot_of p (suc i) xs)) (eq-eqb i p e)

  pub slot_past : (p i : ℕ) (x : Option V) (xs : List (Option V)) → i ≢ p → slot_of p i (x ∷ xs) ≡ slot_of p (suc i) xs
  slot_past p i x xs n = ap (λ b. cond b (Some x) (slot_of p (suc i) xs)) (ne_eqb i p n)

  -- what a slot has stands as far in the slots as the place is from the first
  pub slot_at : (k i p : ℕ) (o y : Option V) (xs : List (Option V)) → k + i ≡ p → slot_of p i xs ≡ Some o → slice_index_or xs k y ≡ o
  slot_at k i p o y [] e h = absurd (let f : None ≡ Some o = h in cc)
  slot_at zero i p o y (x ∷ xs) e h = let f : Some x ≡ Some o = sym (slot_here p i x xs (omega arith)) ∙ h in cc
  slot_at (suc k) i p o y (x ∷ xs) e h = slot_at k (suc i) p o y xs (omega arith) (sym (slot_past p i x xs (λ n. omega arith)) ∙ h)

  -- places alone have slots
  pub slot_place : (p i : ℕ) (o : Option V) (xs : List (Option V)) → slot_of p i xs ≡ Some o → (i ≤ p) × (p < i + length xs)
  slot_place p i o [] h = absurd (let f : None ≡ Some o = h in cc)
  slot_place p i o (x ∷ xs) h =
      ⊎_elim
      (λ e. (omega arith, omega arith))
      (λ n. let t = slot_place p (suc i) o xs (sym (slot_past p i x xs n) ∙ h) in let l = t.0 in let m = t.1 in (omega (l, arith), omega (m, arith)))
      (cases_eq i p)

  -- and each has one
  pub place_slot : (p i : ℕ) (xs : List (Option V)) → i ≤ p → p < i + length xs → (o : Option V) × (slot_of p i xs ≡ Some o)
  place_slot p i [] l m = absurd (omega arith)
  place_slot p i (x ∷ xs) l m =
      ⊎_elim
      (λ e. (x, slot_here p i x xs e))
      (λ n. let t = place_slot p (suc i) xs (omega (n, l, arith)) (omega arith) in (t.0, slot_past p i x xs n ∙ t.1))
      (cases_eq i p)

  pub slot_set : (k i p : ℕ) (o : Option V) (xs : List (Option V)) → k + i ≡ p → k < length xs → slot_of p i (slice_set xs k o) ≡ Some o
  slot_set k i p o [] e l = absurd (omega arith)
  slot_set zero i p o (x ∷ xs) e l = slot_here p i o xs (omega arith)
  slot_set (suc k) i p o (x ∷ xs) e l = slot_past p i x (slice_set xs k o) (λ n. omega arith) ∙ slot_set k (suc i) p o xs (omega arith) (omega arith)

  pub slot_other : (k i q : ℕ) (o : Option V) (xs : List (Option V)) → k + i ≢ q → slot_of q i (slice_set xs k o) ≡ slot_of q i xs
  slot_other k i q o [] n = refl
  slot_other zero i q o (x ∷ xs) n = slot_past q i o xs (λ e. n (omega arith)) ∙ sym (slot_past q i x xs (λ e. n (omega arith)))
  slot_other (suc k) i q o (x ∷ xs) n = ap (cond _ (Some x)) (slot_other k (suc i) q o xs (λ e. n (omega arith)))
