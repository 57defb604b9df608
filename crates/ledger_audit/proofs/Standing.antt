-- A part of a list between two places, from behind.
use Rattle.std.proofs.Common.{◌≡◌, ◌≢◌, ℕ, zero, suc, ◌<◌, ◌≤◌, ◌+◌, ◌-◌, Bool, true, false, cond, ◌&&◌, nat_eq, List, [], ◌∷◌, ◌++◌, refl, sym, ap, ◌∙◌, subst, ⊎_elim, append_assoc, length, length-append, reverse, arith, Option, None, Some, slice_get}
use Rattle.std.specs.List.{list_all as all}
use Rattle.std.proofs.lemmas.List.{reverse-append}
use Rattle.chunk_core.specs.Lists.{IsAmong}
use Rattle.chunk_core.specs.Lists.IsAmong.{here, there}
use Rattle.chunk_core.proofs.Bools.{number, itself, tested, not_so}
use Rattle.ledger_verdict.specs.Pending.{behind}
use Rattle.ledger_audit.specs.Marks.{Stands}

-- a list has a last element, or none
last_of : (xs : List ℕ) (n : ℕ) → length xs ≡ n + 1 → (ys : List ℕ) × (y : ℕ) × (xs ≡ ys ++ y ∷ [])
last_of [] n e = absurd (omega (arith, e))
last_of (x ∷ []) n e = ([], x, refl)
last_of (x ∷ y ∷ xs) n e =
    let l : length (y ∷ xs) ≡ length xs + 1 = omega arith in
    let t = last_of (y ∷ xs) (length xs) l in
    (x ∷ t.0, t.1, ap (λ l. x ∷ l) t.2)

at_mid : (xs ys : List ℕ) (x : ℕ) → slice_get (xs ++ x ∷ ys) (length xs) ≡ Some x
at_mid [] ys x = refl
at_mid (z ∷ xs) ys x = at_mid xs ys x

within_mid : (xs ys zs : List ℕ) (n : ℕ) → n < length xs + length ys → slice_get (xs ++ (ys ++ zs)) n ≡ None → ⊥
within_mid xs ys zs n l h = inside (xs ++ (ys ++ zs)) n (let a = length-append xs (ys ++ zs) in let b = length-append ys zs in omega (arith, l, a, b)) h
  where
    inside : (xs : List ℕ) (n : ℕ) → n < length xs → slice_get xs n ≡ None → ⊥
    inside [] n l h = omega (arith, l)
    inside (x ∷ xs) zero l h = cc
    inside (x ∷ xs) (suc n) l h = inside xs n (omega (arith, l)) h

-- a place in front of the end has an element
pub stands_within : (xs : List ℕ) (i j : ℕ) (ys : List ℕ) (n : ℕ) → Stands xs i j ys → n < j → slice_get xs n ≡ None → ⊥
stands_within xs i j ys n t l h =
    let a = t.3 in
    let b = t.4 in
    within_mid t.0 ys t.1 n (omega (arith, a, b, l)) (subst (λ z. slice_get z n ≡ None) t.2 h)

-- the part without its last element
pub stands_last : (xs : List ℕ) (i j : ℕ) (ys : List ℕ) (n x : ℕ) → Stands xs i j ys → j ≡ n + 1 → i ≤ n → slice_get xs n ≡ Some x → (zs : List ℕ) × (ys ≡ zs ++ x ∷ []) × Stands xs i n zs
stands_last xs i j ys n x t e l h =
    let a = t.3 in
    let b = t.4 in
    let u = last_of ys (n - i) (omega (arith, a, b, e, l)) in
    let long = length-append u.0 (u.1 ∷ []) in
    let whole : length ys ≡ length u.0 + 1 = ap length u.2 ∙ long in
    let cut : xs ≡ (t.0 ++ u.0) ++ u.1 ∷ t.1 =
    t.2 ∙ ap (λ z. t.0 ++ (z ++ t.1)) u.2 ∙ ap (λ z. t.0 ++ z) (append_assoc u.0 (u.1 ∷ []) t.1) ∙ sym (append_assoc t.0 u.0 (u.1 ∷ t.1)) in
    let both = length-append t.0 u.0 in
    let place : length (t.0 ++ u.0) ≡ n = omega (arith, a, b, e, whole, both) in
    let is : Some u.1 ≡ Some x = sym (at_mid (t.0 ++ u.0) t.1 u.1) ∙ ap (slice_get ((t.0 ++ u.0) ++ u.1 ∷ t.1)) place ∙ ap (λ z. slice_get z n) (sym cut) ∙ h in
    let same : u.1 ≡ x = cc in
    (u.0, u.2 ∙ ap (λ z. u.0 ++ z ∷ []) same, (t.0, u.1 ∷ t.1, cut ∙ append_assoc t.0 u.0 (u.1 ∷ t.1), t.3, (omega (arith, a, b, e, whole))))

pub stands_none : (xs : List ℕ) (i j : ℕ) (ys : List ℕ) → Stands xs i j ys → j ≤ i → ys ≡ []
stands_none xs i j [] t l = refl
stands_none xs i j (y ∷ ys) t l = let b = t.4 in absurd (omega (arith, b, l))

-- a longer list
pub stands_more : (xs zs : List ℕ) (i j : ℕ) (ys : List ℕ) → Stands xs i j ys → Stands (xs ++ zs) i j ys
stands_more xs zs i j ys t = (t.0, t.1 ++ zs, ap (λ l. l ++ zs) t.2 ∙ append_assoc t.0 (ys ++ t.1) zs ∙ ap (λ l. t.0 ++ l) (append_assoc ys t.1 zs), t.3, t.4)

pub reverse_last : (zs : List ℕ) (x : ℕ) → reverse (zs ++ x ∷ []) ≡ x ∷ reverse zs
reverse_last zs x = reverse-append zs (x ∷ [])

pub all_last : (p : ℕ → Bool) (ys zs : List ℕ) (x : ℕ) → ys ≡ zs ++ x ∷ [] → all p (reverse ys) ≡ (p x && all p (reverse zs))
all_last p ys zs x e = ap (λ l. all p (reverse l)) e ∙ ap (all p) (reverse_last zs x)

pub behind_last : (p : ℕ → Bool) (r : ℕ) (ys zs : List ℕ) (x : ℕ) → ys ≡ zs ++ x ∷ [] → behind p r (reverse ys) ≡ cond {A = Option (List ℕ)} (nat_eq x r) (Some (reverse zs)) (cond (p x) (behind p r (reverse zs)) None)
behind_last p r ys zs x e = ap (λ l. behind p r (reverse l)) e ∙ ap (behind p r) (reverse_last zs x)

pub differs : (x r : ℕ) → x ≢ r → nat_eq x r ≡ false
differs x r n = ⊎_elim (λ h. absurd (n (number x r h))) (λ h. not_so (nat_eq x r) h) (tested (nat_eq x r))

pub same : (x r : ℕ) → x ≡ r → nat_eq x r ≡ true
same x r e = subst (λ y. nat_eq x y ≡ true) e (itself x)

-- what isn't there has nothing behind it
pub behind_none : (p : ℕ → Bool) (r : ℕ) (xs : List ℕ) → ¬ (IsAmong r xs) → behind p r xs ≡ None
behind_none p r [] n = refl
behind_none p r (x ∷ xs) n =
    ap (λ b. cond {A = Option (List ℕ)} b (Some xs) (cond (p x) (behind p r xs) None)) (differs x r (λ e. n (subst (λ y. IsAmong y (x ∷ xs)) e (here xs))))
    ∙ elim (p x) as (λ b. cond {A = Option (List ℕ)} b (behind p r xs) None ≡ None) [ true ↦ behind_none p r xs (λ m. n (there x m)) | false ↦ refl ]

-- behind what stands there once, where all may be passed
pub behind_some : (p : ℕ → Bool) (r : ℕ) (xs ys : List ℕ) → ((q : ℕ) → p q ≡ true) → ¬ (IsAmong r xs) → behind p r (xs ++ r ∷ ys) ≡ Some ys
behind_some p r [] ys a n = ap (λ b. cond {A = Option (List ℕ)} b (Some ys) (cond (p r) (behind p r ys) None)) (itself r)
behind_some p r (x ∷ xs) ys a n =
    ap (λ b. cond {A = Option (List ℕ)} b (Some (xs ++ r ∷ ys)) (cond (p x) (behind p r (xs ++ r ∷ ys)) None)) (differs x r (λ e. n (subst (λ y. IsAmong y (x ∷ xs)) e (here xs))))
    ∙ ap (λ b. cond {A = Option (List ℕ)} b (behind p r (xs ++ r ∷ ys)) None) (a x)
    ∙ behind_some p r xs ys a (λ m. n (there x m))
