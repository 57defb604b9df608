-- What is told of chosen numbers, in any order.
use Rattle.std.proofs.Common.{◌≡◌, ◌≢◌, ℕ, nat_eq, List, [], ◌∷◌, ◌++◌, flat_map, refl, sym, ◌∙◌, ap, subst, ⊎_elim, append_assoc}
use Rattle.std.proofs.lemmas.Grind.{flat_map-append}
use Rattle.std.proofs.lemmas.List.Sorted.{IsPermutation-append_comm, IsPermutation-append_left, IsPermutation-append_right, IsPermutation-refl, IsPermutation-trans}
use Rattle.std.specs.List.{IsDistinct}
use Rattle.std.specs.List.Sorted.{IsPermutation}
use Rattle.chunk_core.specs.Lists.{IsAmong}
use Rattle.chunk_core.specs.Lists.IsAmong.{here, there}
use Rattle.chunk_core.proofs.Bools.{itself}
use Rattle.chunk_core.proofs.Distinct.{distinct_head, distinct_tail}
use Rattle.chunk_core.proofs.Filters.{among_append, among_right}
use Rattle.chunk_core.proofs.Members.{among_cons, among_left, among_nil}
use Rattle.std.proofs.lemmas.Bool.{false≢true}
use Rattle.res_ledger.proofs.Prefixes.{split_at}
use Rattle.stream_parts.proofs.Exchanged.{distinct_both, distinct_parts}

module _ {A : Type 0} (f : ℕ → List A) where
  -- where nothing is told of any
  flat_none : (xs : List ℕ) → ((x : ℕ) → IsAmong x xs → f x ≡ []) → flat_map f xs ≡ []
  flat_none [] h = refl
  flat_none (x ∷ xs) h = ap (λ l. l ++ flat_map f xs) (h x (here xs)) ∙ flat_none xs (λ y m. h y (there x m))

  -- what stands in the middle may stand first
  flat_first : (us : List ℕ) (y : ℕ) (bs : List ℕ) → IsPermutation (flat_map f (us ++ y ∷ bs)) (f y ++ flat_map f (us ++ bs))
  flat_first us y bs =
      subst (λ l. IsPermutation l (f y ++ flat_map f (us ++ bs))) (sym (flat_map-append f us (y ∷ bs)))
      (subst (λ l. IsPermutation (flat_map f us ++ (f y ++ flat_map f bs)) (f y ++ l)) (sym (flat_map-append f us bs))
      (subst (λ l. IsPermutation l (f y ++ (flat_map f us ++ flat_map f bs))) (append_assoc (flat_map f us) (f y) (flat_map f bs))
      (subst (λ l. IsPermutation ((flat_map f us ++ f y) ++ flat_map f bs) l) (append_assoc (f y) (flat_map f us) (flat_map f bs))
      (IsPermutation-append_left (flat_map f bs) (flat_map f us ++ f y) (f y ++ flat_map f us) (IsPermutation-append_comm (flat_map f us) (f y))))))

  -- one list has the numbers of the other, and more of which nothing is told
  pub flat_chosen : (xs ys : List ℕ) → IsDistinct nat_eq xs → IsDistinct nat_eq ys → ((y : ℕ) → IsAmong y ys → IsAmong y xs) → ((x : ℕ) → IsAmong x xs → ¬ (IsAmong x ys) → f x ≡ []) → IsPermutation (flat_map f xs) (flat_map f ys)
  flat_chosen xs [] d e inside none = subst (λ l. IsPermutation l []) (sym (flat_none xs (λ x m. none x m (λ n. among_nil n)))) (IsPermutation-refl [])
  flat_chosen xs (y ∷ ys) d e inside none =
      let s = split_at y xs (inside y (here ys)) in
      let us = s.0 in
      let bs = s.1 in
      let parts = distinct_parts nat_eq us (y ∷ bs) (subst (IsDistinct nat_eq) s.2 d) in
      let apart : IsDistinct nat_eq (us ++ bs) = distinct_both nat_eq us bs parts.0 (distinct_tail y bs parts.1) (λ u v i j. parts.2 u v i (there y j)) in
      let other : (x : ℕ) → IsAmong x (us ++ bs) → x ≢ y = λ x m same. ⊎_elim
      (λ i. false≢true (sym (parts.2 x y i (here bs)) ∙ (ap (λ k. nat_eq k y) same ∙ itself y)))
      (λ j. distinct_head y bs parts.1 (subst (λ k. IsAmong k bs) same j))
      (among_append x us bs m) in
      let back : (x : ℕ) → IsAmong x (us ++ bs) → IsAmong x xs = λ x m. subst (λ l. IsAmong x l) (sym s.2) (⊎_elim (λ i. among_left (y ∷ bs) i) (λ j. among_right x us (y ∷ bs) (there y j)) (among_append x us bs m)) in
      let stay : (x : ℕ) → IsAmong x xs → x ≢ y → IsAmong x (us ++ bs) = λ x m ne. ⊎_elim (λ i. among_left bs i) (λ j. ⊎_elim (λ q. absurd (ne q)) (λ k. among_right x us bs k) (among_cons j)) (among_append x us (y ∷ bs) (subst (λ l. IsAmong x l) s.2 m)) in
      let rest = flat_chosen (us ++ bs) ys apart (distinct_tail y ys e)
      (λ z m. stay z (inside z (there y m)) (λ q. distinct_head y ys e (subst (λ k. IsAmong k ys) q m)))
      (λ x m n. none x (back x m) (λ i. ⊎_elim (λ q. other x m q) (λ j. n j) (among_cons i))) in
      IsPermutation-trans (flat_map f xs) (f y ++ flat_map f (us ++ bs)) (f y ++ flat_map f ys)
      (subst (λ l. IsPermutation (flat_map f l) (f y ++ flat_map f (us ++ bs))) (sym s.2) (flat_first us y bs))
      (IsPermutation-append_right (f y) (flat_map f (us ++ bs)) (flat_map f ys) rest)
