-- Tests of lists set end to end.
use Rattle.std.proofs.Common.{◌≡◌, ℕ, Bool, true, false, cond, ◌&&◌, ◌||◌, not, nat_eq, List, [], ◌∷◌, ◌++◌, refl, ap, ◌∙◌}
use Rattle.std.specs.List.{list_any as any, list_all as all}
use Rattle.std.proofs.lemmas.List.Folds.{list_all-append, list_any-append}
use Rattle.pull_nodes.specs.Placed.{are_apart, is_once}
use Rattle.chunk_core.specs.Lists.{are_distinct}

and_assoc : (a b c : Bool) → (a && (b && c)) ≡ ((a && b) && c)
and_assoc true b c = refl
and_assoc false b c = refl

module _ {A : Type 0} (p : A → Bool) where
  pub all_append : (xs ys : List A) → all p (xs ++ ys) ≡ (all p xs && all p ys)
  all_append xs ys = list_all-append p xs ys

  pub any_append : (xs ys : List A) → any p (xs ++ ys) ≡ (any p xs || any p ys)
  any_append xs ys = list_any-append p xs ys

pub apart_append : (xs ys zs : List ℕ) → are_apart (xs ++ ys) zs ≡ (are_apart xs zs && are_apart ys zs)
apart_append xs ys zs = list_all-append (λ p. not (any (nat_eq p) zs)) xs ys

-- x is not among xs and ys, ys' test d and the rest of xs apart
distinct_step : (m n d e a : Bool) → (not (m || n) && ((d && e) && a)) ≡ ((not m && d) && (e && (not n && a)))
distinct_step true true d e a = refl
distinct_step true false d e a = refl
distinct_step false true true true a = refl
distinct_step false true true false a = refl
distinct_step false true false e a = refl
distinct_step false false true true a = refl
distinct_step false false true false a = refl
distinct_step false false false e a = refl

and_true : (b : Bool) → b ≡ (b && true)
and_true true = refl
and_true false = refl

pub distinct_append : (xs ys : List ℕ) → are_distinct (xs ++ ys) ≡ ((are_distinct xs && are_distinct ys) && are_apart xs ys)
distinct_append [] ys = and_true (are_distinct ys)
distinct_append (x ∷ xs) ys =
    ap (λ b. not b && are_distinct (xs ++ ys)) (list_any-append (nat_eq x) xs ys)
    ∙ (ap (λ b. not (any (nat_eq x) xs || any (nat_eq x) ys) && b) (distinct_append xs ys)
    ∙ (distinct_step (any (nat_eq x) xs) (any (nat_eq x) ys) (are_distinct xs) (are_distinct ys) (are_apart xs ys)
    ∙ and_assoc (not (any (nat_eq x) xs) && are_distinct xs) (are_distinct ys) (not (any (nat_eq x) ys) && are_apart xs ys)))

neither : (m n : Bool) → not (m || n) ≡ ((not m && not n) || false)
neither true n = refl
neither false true = refl
neither false false = refl

pub once_append : (p : ℕ) (xs ys : List ℕ) → is_once (xs ++ ys) p ≡ ((is_once xs p && not (any (nat_eq p) ys)) || (not (any (nat_eq p) xs) && is_once ys p))
once_append p [] ys = refl
once_append p (x ∷ xs) ys =
    elim (nat_eq p x) as (λ b. cond b (not (any (nat_eq p) (xs ++ ys))) (is_once (xs ++ ys) p) ≡ ((cond b (not (any (nat_eq p) xs)) (is_once xs p) && not (any (nat_eq p) ys)) || (not (b || any (nat_eq p) xs) && is_once ys p))) [
      | true ↦ ap not (list_any-append (nat_eq p) xs ys) ∙ neither (any (nat_eq p) xs) (any (nat_eq p) ys)
      | false ↦ once_append p xs ys
    ]
