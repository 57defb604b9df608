-- Sums over the first numbers.
use Rattle.std.proofs.Common.{◌≡◌, ℕ, zero, suc, ◌+◌, ◌*◌, ◌<◌, ◌≤◌, cond, nat_eq, refl, ap, ◌∙◌, ⊎_elim, eq-eqb, ne_eqb, arith}
use Rattle.std.specs.List.{sum_by}
use Rattle.std.proofs.lemmas.Bool.{cases_eq}
use Rattle.std.proofs.lemmas.List.Sums.{sum_by_push}
use Rattle.run_rules.specs.Facts.{first_numbers}
use Rattle.gen_case.proofs.Counting.{number_next}

-- the last of them apart
pub sum_next : (f : ℕ → ℕ) (n : ℕ) → sum_by f (first_numbers (suc n)) ≡ sum_by f (first_numbers n) + f n
sum_next f n = ap (λ l. sum_by f l) (number_next n) ∙ sum_by_push f (first_numbers n) n

-- of two functions that agree
pub sum_same : (f g : ℕ → ℕ) (n : ℕ) → ((k : ℕ) → k < n → f k ≡ g k) → sum_by f (first_numbers n) ≡ sum_by g (first_numbers n)
sum_same f g zero h = refl
sum_same f g (suc n) h =
    let rest = sum_same f g n (λ k l. h k (omega arith)) in
    let last : f n ≡ g n = h n (omega arith) in
    omega (arith, sum_next f n, sum_next g n, rest, last)

-- of two functions added
pub sum_plus : (f g : ℕ → ℕ) (n : ℕ) → sum_by (λ k. f k + g k) (first_numbers n) ≡ sum_by f (first_numbers n) + sum_by g (first_numbers n)
sum_plus f g zero = refl
sum_plus f g (suc n) =
    let rest = sum_plus f g n in
    omega (arith, sum_next (λ k. f k + g k) n, sum_next f n, sum_next g n, rest)

-- of one value
pub sum_const : (v n : ℕ) → sum_by (λ k. v) (first_numbers n) ≡ v * n
sum_const v zero = omega arith
sum_const v (suc n) = let rest = sum_const v n in omega (arith, sum_next (λ k. v) n, rest)

-- v for s, and nothing for all others
abbrev pub only : ℕ → ℕ → ℕ → ℕ
only s v k = cond (nat_eq s k) v 0

only_none : (s v n : ℕ) → n ≤ s → sum_by (only s v) (first_numbers n) ≡ 0
only_none s v zero h = refl
only_none s v (suc n) h =
    let rest = only_none s v n (omega arith) in
    let last : only s v n ≡ 0 = ap (λ b. cond b v 0) (ne_eqb s n (λ e. omega arith)) in
    omega (arith, sum_next (only s v) n, rest, last)

pub only_one : (s v n : ℕ) → s < n → sum_by (only s v) (first_numbers n) ≡ v
only_one s v zero h = absurd (omega arith)
only_one s v (suc n) h = ⊎_elim
    (λ e.
    let rest = only_none s v n (omega arith) in
    let last : only s v n ≡ v = ap (λ b. cond b v 0) (eq-eqb s n e) in
    omega (arith, sum_next (only s v) n, rest, last))
    (λ ne.
    let rest = only_one s v n (omega arith) in
    let last : only s v n ≡ 0 = ap (λ b. cond b v 0) (ne_eqb s n ne) in
    omega (arith, sum_next (only s v) n, rest, last))
    (cases_eq s n)
