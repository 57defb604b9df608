-- Lists of numbers that have the same elements, and counts over them.
use Rattle.std.proofs.Common.{◌≡◌, ℕ, zero, suc, ◌+◌, ◌<◌, ◌≤◌, List, [], ◌∷◌, ◌++◌, length, sym, subst, ⊎_elim, arith, nat_eq}
use Rattle.std.proofs.lemmas.Bool.{cases_lt}
use Rattle.std.proofs.lemmas.Cmp.{nat_eq_equiv}
use Rattle.std.proofs.lemmas.Map.Made.{length-le_from_is_member}
use Rattle.std.proofs.lemmas.List.Sorted.{IsPermutation-cons, IsPermutation-middle, IsPermutation-refl, IsPermutation-sym, IsPermutation-trans}
use Rattle.std.specs.List.{range_with_len, IsDistinct}
use Rattle.std.specs.List.Sorted.{IsPermutation}
use Rattle.chunk_core.specs.Lists.{IsAmong}
use Rattle.chunk_core.specs.Lists.IsAmong.{here, there}
use Rattle.chunk_core.proofs.Bools.{has_in, in_has}
use Rattle.chunk_core.proofs.Members.{among_nil, among_cons, among_left}
use Rattle.chunk_core.proofs.Filters.{among_append, among_right}
use Rattle.res_ledger.proofs.Prefixes.{split_at}
use Rattle.chunk_core.proofs.Distinct.{distinct_cons, distinct_head, distinct_mid, distinct_nil, distinct_tail}

without_mid : (A B : List ℕ) (x y : ℕ) → IsAmong y (A ++ x ∷ B) → (y ≡ x → ⊥) → IsAmong y (A ++ B)
without_mid A B x y m ne = ⊎_elim (λ i. among_left B i) (λ i. ⊎_elim (λ e. absurd (ne e)) (λ j. among_right y A B j) (among_cons i)) (among_append y A (x ∷ B) m)

with_mid : (A B : List ℕ) (x y : ℕ) → IsAmong y (A ++ B) → IsAmong y (A ++ x ∷ B)
with_mid A B x y m = ⊎_elim (λ i. among_left (x ∷ B) i) (λ i. among_right y A (x ∷ B) (there x i)) (among_append y A B m)

-- lists without doubles that have the same elements
pub same_elements : (xs ys : List ℕ) → IsDistinct nat_eq xs → IsDistinct nat_eq ys → ((x : ℕ) → IsAmong x xs → IsAmong x ys) → ((x : ℕ) → IsAmong x ys → IsAmong x xs) → IsPermutation xs ys
same_elements [] [] d g to from = IsPermutation-refl []
same_elements [] (y ∷ ys) d g to from = absurd (among_nil (from y (here ys)))
same_elements (x ∷ xs) ys d g to from =
    let parts = split_at x ys (to x (here xs)) in
    let A : List ℕ = parts.0 in
    let B : List ℕ = parts.1 in
    let less = distinct_mid A B x (subst (IsDistinct nat_eq) parts.2 g) in
    let rest = same_elements xs (A ++ B) (distinct_tail x xs d) less.0
    (λ y m. without_mid A B x y (subst (λ l. IsAmong y l) parts.2 (to y (there x m))) (λ e. distinct_head x xs d (subst (λ z. IsAmong z xs) e m)))
    (λ y m. ⊎_elim (λ e. absurd (less.1 (subst (λ z. IsAmong z (A ++ B)) e m))) (λ i. i) (among_cons (from y (subst (λ l. IsAmong y l) (sym parts.2) (with_mid A B x y m))))) in
    subst (λ l. IsPermutation (x ∷ xs) l) (sym parts.2)
    (IsPermutation-trans (x ∷ xs) (x ∷ (A ++ B)) (A ++ x ∷ B) (IsPermutation-cons x xs (A ++ B) rest) (IsPermutation-sym (A ++ x ∷ B) (x ∷ (A ++ B)) (IsPermutation-middle A x B)))

-- of numbers that all stand in another list there are no more than that has
pub distinct_within : (xs ys : List ℕ) → IsDistinct nat_eq xs → ((x : ℕ) → IsAmong x xs → IsAmong x ys) → length xs ≤ length ys
distinct_within xs ys d h = length-le_from_is_member nat_eq_equiv xs ys d (λ q m. in_has q ys (h q (has_in q xs m)))

-- Numbers in succession.

pub range_among : (a n r : ℕ) → a ≤ r → r < a + n → IsAmong r (range_with_len a n)
range_among a zero r l m = absurd (omega arith)
range_among a (suc n) r l m =
    ⊎_elim
    (λ (s : a < r). there a (range_among (a + 1) n r (omega arith) (omega arith)))
    (λ (s : r ≤ a). let e : a ≡ r = omega arith in subst (λ q. IsAmong q (a ∷ range_with_len (a + 1) n)) e (here (range_with_len (a + 1) n)))
    (cases_lt a r)

pub among_range : (a n r : ℕ) → IsAmong r (range_with_len a n) → (a ≤ r) × (r < a + n)
among_range a zero r m = absurd (among_nil m)
among_range a (suc n) r m = ⊎_elim (λ e. (omega arith, omega arith)) (λ i. let b = among_range (a + 1) n r i in (omega (arith, b.0), omega (arith, b.1))) (among_cons m)

pub range_distinct : (a n : ℕ) → IsDistinct nat_eq (range_with_len a n)
range_distinct a zero = distinct_nil
range_distinct a (suc n) = distinct_cons a (range_with_len (a + 1) n) (λ m. let b = among_range (a + 1) n a m in omega (arith, b.0)) (range_distinct (a + 1) n)
