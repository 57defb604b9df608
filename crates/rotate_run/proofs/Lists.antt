-- Places of lists.
use Rattle.std.proofs.Common.{◌≡◌, ◌⊎◌, ℕ, zero, suc, ◌+◌, ◌<◌, ◌≤◌, List, [], ◌∷◌, ◌++◌, length, map, Option, Some, None, inl, inr, refl, sym, ap, ◌∙◌, ⊎_elim, arith}
use Rattle.std.specs.List.{AllByRecursion, range_with_len}
use Rattle.chunk_core.specs.Lists.{IsAmong}
use Rattle.chunk_core.specs.Lists.IsAmong.{here, there}
use Rattle.run_rules.specs.Facts.{at}

pub some_is : {A : Type 0} (x y : A) → Some x ≡ Some y → x ≡ y
some_is x y e = cc

pub at_none : {A : Type 0} (xs : List A) (i : ℕ) → length xs ≤ i → at xs i ≡ None
at_none [] i l = refl
at_none (x ∷ xs) zero l = absurd (omega arith)
at_none (x ∷ xs) (suc i) l = at_none xs i (omega arith)

pub at_map : {A B : Type 0} (f : A → B) (xs : List A) (i : ℕ) (x : A) → at xs i ≡ Some x → at (map f xs) i ≡ Some (f x)
at_map f [] i x e = absurd cc
at_map f (y ∷ xs) zero x e = ap (λ z. Some (f z)) (some_is y x e)
at_map f (y ∷ xs) (suc i) x e = at_map f xs i x e

pub at_range : (a n i : ℕ) → i < n → at (range_with_len a n) i ≡ Some (a + i)
at_range a zero i l = absurd (omega arith)
at_range a (suc n) zero l = let z : a ≡ a + 0 = omega arith in ap (λ x. Some x) z
at_range a (suc n) (suc i) l = let z : a + 1 + i ≡ a + suc i = omega arith in at_range (a + 1) n i (omega arith) ∙ ap (λ x. Some x) z

-- in the first of two lists
pub at_before : {A : Type 0} (xs ys : List A) (i : ℕ) (x : A) → at xs i ≡ Some x → at (xs ++ ys) i ≡ Some x
at_before [] ys i x e = absurd cc
at_before (y ∷ xs) ys zero x e = e
at_before (y ∷ xs) ys (suc i) x e = at_before xs ys i x e

-- in the second
pub at_behind : {A : Type 0} (xs ys : List A) (j : ℕ) → at (xs ++ ys) (length xs + j) ≡ at ys j
at_behind [] ys j = let z : 0 + j ≡ j = omega arith in ap (λ k. at ys k) z
at_behind (x ∷ xs) ys j = let z : suc (length xs) + j ≡ suc (length xs + j) = omega arith in ap (λ k. at (x ∷ (xs ++ ys)) k) z ∙ at_behind xs ys j

pub at_split : {A : Type 0} (xs ys : List A) (i : ℕ) (x : A) → at (xs ++ ys) i ≡ Some x → (at xs i ≡ Some x) ⊎ ((j : ℕ) × (i ≡ length xs + j) × (at ys j ≡ Some x))
at_split [] ys i x e = inr (i, omega arith, e)
at_split (y ∷ xs) ys zero x e = inl e
at_split (y ∷ xs) ys (suc i) x e = ⊎_elim (λ l. inl l) (λ r. inr (r.0, (let z = r.1 in omega (arith, z)), r.2)) (at_split xs ys i x e)

-- what is among a list stands at a place of it
pub stands_at : {A : Type 0} (x : A) (xs : List A) → IsAmong x xs → (i : ℕ) × (at xs i ≡ Some x)
stands_at x xs (here ys) = (0, refl)
stands_at x xs (there {xs = ys} y m) = let r = stands_at x ys m in (suc r.0, r.1)

-- what has the same at each place is the same
pub same_lists : {A : Type 0} (xs ys : List A) → length xs ≡ length ys → ((i : ℕ) (x : A) → at xs i ≡ Some x → at ys i ≡ Some x) → xs ≡ ys
same_lists [] [] l h = refl
same_lists [] (y ∷ ys) l h = absurd (omega arith)
same_lists (x ∷ xs) [] l h = absurd (omega arith)
same_lists (x ∷ xs) (y ∷ ys) l h = ap (λ z. z ∷ xs) (sym (some_is y x (h 0 x refl))) ∙ ap (λ zs. y ∷ zs) (same_lists xs ys (omega arith) (λ i z e. h (suc i) z e))

-- what holds at each place holds of each
pub each_at : {A : Type 0} (P : A → Type 0) (xs : List A) → ((i : ℕ) (x : A) → at xs i ≡ Some x → P x) → AllByRecursion P xs
each_at P [] h = tt
each_at P (x ∷ xs) h = (h 0 x refl, each_at P xs (λ i y e. h (suc i) y e))
