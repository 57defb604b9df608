-- Elements cut into groups.
use Rattle.std.proofs.Common.{◌≡◌, ℕ, zero, suc, ◌+◌, ◌-◌, ◌<◌, ◌≤◌, List, [], ◌∷◌, ◌++◌, length, take, drop, refl, sym, ap, ◌∙◌, subst, arith, append-nil, length-append, length-drop}
use Rattle.std.proofs.Math.Seq.{drop-append_seam, drop-length, take-append_seam}
use Rattle.std.proofs.lemmas.List.{drop_all, take_all}
use Rattle.chunk_core.specs.Elements.{Element}
use Rattle.eval_rules.specs.Answers.{groups_of, groups_up_to}

-- there are no more groups than elements
pub enough : (k j n : ℕ) (xs : List Element) → 0 < n → length xs ≤ k → length xs ≤ j → groups_up_to k n xs ≡ groups_up_to j n xs
enough zero zero n xs some a b = refl
enough zero (suc j) n [] some a b = refl
enough zero (suc j) n (x ∷ xs) some a b = absurd (omega arith)
enough (suc k) zero n [] some a b = refl
enough (suc k) zero n (x ∷ xs) some a b = absurd (omega arith)
enough (suc k) (suc j) n [] some a b = refl
enough (suc k) (suc j) n (x ∷ xs) some a b = let l = length-drop n (x ∷ xs) in ap (λ gs. take n (x ∷ xs) ∷ gs) (enough k j n (drop n (x ∷ xs)) some (omega (arith, l, a, some)) (omega (arith, l, b, some)))

-- the first group of some elements
cut : (n : ℕ) (x : Element) (xs : List Element) → 0 < n → groups_of n (x ∷ xs) ≡ take n (x ∷ xs) ∷ groups_of n (drop n (x ∷ xs))
cut n x xs some = let l = length-drop n (x ∷ xs) in ap (λ gs. take n (x ∷ xs) ∷ gs) (enough (length xs) (length (drop n (x ∷ xs))) n (drop n (x ∷ xs)) some (omega (arith, l, some)) (omega arith))

first : (n : ℕ) (xs : List Element) → 0 < n → 0 < length xs → groups_of n xs ≡ take n xs ∷ groups_of n (drop n xs)
first n [] some any = absurd (omega arith)
first n (x ∷ xs) some any = cut n x xs some

-- as many elements as a group has are one
pub one_group : (n : ℕ) (group xs : List Element) → 0 < n → length group ≡ n → groups_of n (group ++ xs) ≡ group ∷ groups_of n xs
one_group n group xs some count =
    let whole = length-append group xs in
    first n (group ++ xs) some (omega (arith, whole, count, some))
    ∙ (ap (λ (g : List Element). g ∷ groups_of n (drop n (group ++ xs))) (ap (λ k. take k (group ++ xs)) (sym count) ∙ take-append_seam group xs)
    ∙ ap (λ (ys : List Element). group ∷ groups_of n ys) (ap (λ k. drop k (group ++ xs)) (sym count) ∙ drop-append_seam group xs))

-- fewer elements, but some, are the last group
pub last_group : (n : ℕ) (group : List Element) → 0 < n → 0 < length group → length group ≤ n → groups_of n group ≡ group ∷ []
last_group n group some any l = first n group some any ∙ (ap (λ (g : List Element). g ∷ groups_of n (drop n group)) (take_all n group l) ∙ ap (λ (ys : List Element). group ∷ groups_of n ys) (drop_all n group l))
