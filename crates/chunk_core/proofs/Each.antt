-- What holds of each element of a list, and of the one that stands in it.
use Rattle.std.proofs.Common.{◌≡◌, ℕ, zero, suc, ◌+◌, ◌<◌, List, [], ◌∷◌, ◌++◌, length, take, get_or, sym, subst, arith}
use Rattle.std.specs.List.{All, AllByRecursion, Contains}
use Rattle.std.specs.List.Sorted.{IsPermutation}
use Rattle.std.proofs.lemmas.List.{take_more}
use Rattle.std.proofs.lemmas.List.Elements.{All-nil, All-cons, All-head, All-tail, All-contains_itself}
use Rattle.std.proofs.lemmas.List.Sorted.{All-permutation, IsPermutation-sym}
use Rattle.chunk_core.specs.Lists.{IsAmong}
use Rattle.chunk_core.specs.Lists.IsAmong.{here, there}

module _ {A : Type 0} (P : A → Type 0) where
  pub each_of : ((x : A) → P x) → (xs : List A) → AllByRecursion P xs
  each_of f [] = tt
  each_of f (x ∷ xs) = (f x, each_of f xs)

  pub each_among : (xs : List A) → ((x : A) → IsAmong x xs → P x) → AllByRecursion P xs
  each_among [] h = tt
  each_among (x ∷ xs) h = (h x (here xs), each_among xs (λ y i. h y (there x i)))

  pub among_each : (x : A) (xs : List A) → AllByRecursion P xs → IsAmong x xs → P x
  among_each x xs h (here ys) = h.0
  among_each x xs h (there {xs = ys} y i) = among_each x ys h.1 i

  pub each_left : (xs ys : List A) → AllByRecursion P (xs ++ ys) → AllByRecursion P xs
  each_left [] ys h = tt
  each_left (x ∷ xs) ys h = (h.0, each_left xs ys h.1)

  pub each_right : (xs ys : List A) → AllByRecursion P (xs ++ ys) → AllByRecursion P ys
  each_right [] ys h = h
  each_right (x ∷ xs) ys h = each_right xs ys h.1

  pub each_append : (xs ys : List A) → AllByRecursion P xs → AllByRecursion P ys → AllByRecursion P (xs ++ ys)
  each_append [] ys h k = k
  each_append (x ∷ xs) ys h k = (h.0, each_append xs ys h.1 k)

  pub each_snoc : (xs : List A) (x : A) → AllByRecursion P xs → P x → AllByRecursion P (xs ++ x ∷ [])
  each_snoc xs x h p = each_append xs (x ∷ []) h (p, tt)

  pub each_last : (xs : List A) (x : A) → AllByRecursion P (xs ++ x ∷ []) → P x
  each_last xs x h = (each_right xs (x ∷ []) h).0

  -- one element more
  pub each_more : (xs : List A) (i : ℕ) (d : A) → i < length xs → AllByRecursion P (take i xs) → P (get_or xs i d) → AllByRecursion P (take (i + 1) xs)
  each_more xs i d h each p = subst (AllByRecursion P) (sym (take_more xs i d h)) (each_snoc (take i xs) (get_or xs i d) each p)

  pub all_each : (xs : List A) → All P xs → AllByRecursion P xs
  all_each [] h = tt
  all_each (x ∷ xs) h = (All-head P x xs h, all_each xs (All-tail P x xs h))

  pub each_all : (xs : List A) → AllByRecursion P xs → All P xs
  each_all [] h = All-nil P
  each_all (x ∷ xs) h = All-cons P x xs h.0 (each_all xs h.1)

  pub each_permuted : (xs ys : List A) → IsPermutation xs ys → AllByRecursion P xs → AllByRecursion P ys
  each_permuted xs ys p h = all_each ys (All-permutation P xs ys p (each_all xs h))

module _ {A : Type 0} where
  pub contains_among : (xs : List A) (x : A) → Contains xs x → IsAmong x xs
  contains_among [] x c = let l : c.0 < 0 = c.1 in absurd (omega arith)
  contains_among (y ∷ xs) x (zero, l, e) = let is : y ≡ x = e in subst (λ z. IsAmong z (y ∷ xs)) is (here xs)
  contains_among (y ∷ xs) x (suc k, l, e) = there y (contains_among xs x (k, omega arith, e))

  -- what stands in a list stands in it in another order
  pub among_permuted : (xs ys : List A) → IsPermutation xs ys → (x : A) → IsAmong x xs → IsAmong x ys
  among_permuted xs ys p x m = contains_among ys x (among_each (Contains ys) x xs (all_each (Contains ys) xs (All-permutation (Contains ys) ys xs (IsPermutation-sym xs ys p) (All-contains_itself ys))) m)
