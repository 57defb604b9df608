-- Lists of numbers in which none stands twice.
use Rattle.std.proofs.Common.{◌≡◌, ℕ, Bool, true, false, cond, not, ◌++◌, filter, nat_eq, List, [], ◌∷◌, reverse, refl, sym, ap, ◌∙◌, subst, ⊎_elim, ne_eqb}
use Rattle.std.specs.List.{IsDistinct}
use Rattle.std.proofs.lemmas.Map.Keys.{IsDistinct-cons, IsDistinct-head, IsDistinct-IsPermutation, IsDistinct-tail}
use Rattle.std.proofs.lemmas.List.Sorted.{IsPermutation-middle}
use Rattle.std.proofs.lemmas.Cmp.{nat_eq_equiv}
use Rattle.chunk_core.specs.Lists.{IsAmong, are_distinct, has}
use Rattle.chunk_core.specs.Lists.IsAmong.{here, there}
use Rattle.chunk_core.proofs.Each.{among_each, each_among}
use Rattle.chunk_core.proofs.Filters.{among_append, among_filter, bool_not}
use Rattle.chunk_core.proofs.Members.{among_cons, among_left, among_nil}
use Rattle.chunk_core.proofs.Reversed.{among_reverse, reverse_cons}
use Rattle.chunk_core.proofs.Bools.{and_true, both, has_in, in_has, itself}

pub distinct_nil : IsDistinct nat_eq []
unfolding IsDistinct
distinct_nil = tt

pub distinct_cons : (x : ℕ) (xs : List ℕ) → ¬ (IsAmong x xs) → IsDistinct nat_eq xs → IsDistinct nat_eq (x ∷ xs)
distinct_cons x xs n d = IsDistinct-cons nat_eq x xs (each_among (λ y. nat_eq x y ≡ false) xs (λ y m. ne_eqb x y (λ e. n (subst (λ z. IsAmong z xs) (sym e) m)))) d

pub distinct_head : (x : ℕ) (xs : List ℕ) → IsDistinct nat_eq (x ∷ xs) → ¬ (IsAmong x xs)
distinct_head x xs d m = bool_not (sym (itself x) ∙ among_each (λ y. nat_eq x y ≡ false) x xs (IsDistinct-head nat_eq x xs d) m)

pub distinct_tail : (x : ℕ) (xs : List ℕ) → IsDistinct nat_eq (x ∷ xs) → IsDistinct nat_eq xs
distinct_tail x xs d = IsDistinct-tail nat_eq x xs d

pub distinct_one : (x : ℕ) → IsDistinct nat_eq (x ∷ [])
distinct_one x = distinct_cons x [] among_nil distinct_nil

pub distinct_front : (xs ys : List ℕ) → IsDistinct nat_eq (xs ++ ys) → IsDistinct nat_eq xs
distinct_front [] ys d = distinct_nil
distinct_front (x ∷ xs) ys d = distinct_cons x xs (λ m. distinct_head x (xs ++ ys) d (among_left ys m)) (distinct_front xs ys (distinct_tail x (xs ++ ys) d))

pub distinct_append : (xs ys : List ℕ) → IsDistinct nat_eq xs → IsDistinct nat_eq ys → ((x : ℕ) → IsAmong x xs → IsAmong x ys → ⊥) → IsDistinct nat_eq (xs ++ ys)
distinct_append [] ys a b n = b
distinct_append (x ∷ xs) ys a b n = distinct_cons x (xs ++ ys) (λ m. ⊎_elim (λ l. distinct_head x xs a l) (λ r. n x (here xs) r) (among_append x xs ys m)) (distinct_append xs ys (distinct_tail x xs a) b (λ y m l. n y (there x m) l))

pub distinct_mid : (xs ys : List ℕ) (x : ℕ) → IsDistinct nat_eq (xs ++ x ∷ ys) → IsDistinct nat_eq (xs ++ ys) × ¬ (IsAmong x (xs ++ ys))
distinct_mid xs ys x d =
    let t = IsDistinct-IsPermutation nat_eq nat_eq_equiv.symm (xs ++ x ∷ ys) (x ∷ (xs ++ ys)) (IsPermutation-middle xs x ys) d in
    (distinct_tail x (xs ++ ys) t, distinct_head x (xs ++ ys) t)

pub distinct_filter : (f : ℕ → Bool) (xs : List ℕ) → IsDistinct nat_eq xs → IsDistinct nat_eq (filter f xs)
distinct_filter f [] d = distinct_nil
distinct_filter f (x ∷ xs) d =
    let t = distinct_filter f xs (distinct_tail x xs d) in
    elim (f x) as (λ b. IsDistinct nat_eq (cond b (x ∷ filter f xs) (filter f xs))) [ true ↦ distinct_cons x (filter f xs) (λ m. distinct_head x xs d (among_filter f x xs m).0) t | false ↦ t ]

pub distinct_reverse : (xs : List ℕ) → IsDistinct nat_eq xs → IsDistinct nat_eq (reverse xs)
distinct_reverse [] d = d
distinct_reverse (x ∷ xs) d = subst (IsDistinct nat_eq) (sym (reverse_cons x xs))
    (distinct_append (reverse xs) (x ∷ []) (distinct_reverse xs (distinct_tail x xs d)) (distinct_one x)
    (λ y m n. ⊎_elim (λ e. distinct_head x xs d (subst (λ z. IsAmong z xs) e (among_reverse y xs m))) among_nil (among_cons n)))

not_has : (x : ℕ) (xs : List ℕ) → ¬ (IsAmong x xs) → not (has x xs) ≡ true
not_has x xs n = (elim (has x xs) as (λ b. has x xs ≡ b → not b ≡ true) [ true ↦ λ h. absurd (n (has_in x xs h)) | false ↦ λ h. refl ]) refl

has_not : (x : ℕ) (xs : List ℕ) → not (has x xs) ≡ true → ¬ (IsAmong x xs)
has_not x xs h m = let i = in_has x xs m in let e : false ≡ true = ap not (sym i) ∙ h in cc

-- the test says so
pub distinct_test : (xs : List ℕ) → IsDistinct nat_eq xs → are_distinct xs ≡ true
distinct_test [] d = refl
distinct_test (x ∷ xs) d = and_true (not (has x xs)) (are_distinct xs) (not_has x xs (distinct_head x xs d)) (distinct_test xs (distinct_tail x xs d))

pub test_distinct : (xs : List ℕ) → are_distinct xs ≡ true → IsDistinct nat_eq xs
test_distinct [] h = distinct_nil
test_distinct (x ∷ xs) h = let b = both (not (has x xs)) (are_distinct xs) h in distinct_cons x xs (has_not x xs b.0) (test_distinct xs b.1)
