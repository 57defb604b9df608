-- At most as many pass as a list has that holds all that pass.
use Rattle.std.proofs.Common.{◌≡◌, ◌≢◌, ◌<◌, ◌≤◌, ◌+◌, ℕ, zero, suc, Bool, true, false, cond, nat_eq, List, [], ◌∷◌, ◌++◌, length, count_by, refl, sym, ap, ◌∙◌, subst, inl, inr, ◌⊎◌, ⊎_elim, arith, ne_eqb, eq-eqb}
use Rattle.std.proofs.lemmas.Bool.{cases_eq}
use Rattle.std.proofs.lemmas.List.Sums.{sum_by-append}
use Rattle.chunk_core.specs.Lists.{IsAmong}
use Rattle.chunk_core.specs.Lists.IsAmong.{here, there}
use Rattle.std.specs.List.{range_with_len}
use Rattle.run_rules.specs.Facts.{first_numbers}

range_snoc : (a n : ℕ) → range_with_len a (suc n) ≡ range_with_len a n ++ (a + n) ∷ []
range_snoc a zero = ap (λ x. x ∷ []) (omega arith)
range_snoc a (suc n) = ap (λ xs. a ∷ xs) (range_snoc (a + 1) n ∙ ap (λ x. range_with_len (a + 1) n ++ x ∷ []) (omega arith))

-- the last of the first numbers
last_number : (n : ℕ) → first_numbers (suc n) ≡ first_numbers n ++ n ∷ []
last_number n = range_snoc 0 n ∙ ap (λ x. range_with_len 0 n ++ x ∷ []) (omega arith)

-- the list without its first n
abbrev drop_one : ℕ → List ℕ → List ℕ
drop_one n [] = []
drop_one n (x ∷ xs) = cond (nat_eq x n) xs (x ∷ drop_one n xs)

rest : (n x : ℕ) (xs : List ℕ) → IsAmong n (x ∷ xs) → n ≢ x → IsAmong n xs
rest n x xs (here ys) ne = absurd (ne refl)
rest n x xs (there y h) ne = h

shorter : (n : ℕ) (xs : List ℕ) → IsAmong n xs → length (drop_one n xs) + 1 ≡ length xs
shorter n (x ∷ xs) h = ⊎_elim
    (λ e. subst (λ b. length (cond b xs (x ∷ drop_one n xs)) + 1 ≡ suc (length xs)) (sym (eq-eqb x n e)) (omega arith))
    (λ ne. subst (λ b. length (cond b xs (x ∷ drop_one n xs)) + 1 ≡ suc (length xs)) (sym (ne_eqb x n ne)) (let r = shorter n xs (rest n x xs h (λ e. ne (sym e))) in omega (arith, r)))
    (cases_eq x n)
shorter n [] h = elim h [ ]

still : (n k : ℕ) (xs : List ℕ) → IsAmong k xs → k ≢ n → IsAmong k (drop_one n xs)
still n k [] h ne = elim h [ ]
still n k (x ∷ xs) h ne = ⊎_elim
    (λ e. subst (λ b. IsAmong k (cond b xs (x ∷ drop_one n xs))) (sym (eq-eqb x n e)) (rest k x xs h (λ s. ne (s ∙ e))))
    (λ no. subst (λ b. IsAmong k (cond b xs (x ∷ drop_one n xs))) (sym (ne_eqb x n no))
    (⊎_elim (λ s. subst (λ z. IsAmong z (x ∷ drop_one n xs)) (sym s) (here (drop_one n xs))) (λ d. there x (still n k xs (rest k x xs h d) ne)) (cases_eq k x)))
    (cases_eq x n)

step : (p : ℕ → Bool) (n : ℕ) (b : Bool) → p n ≡ b → (os : List ℕ) → (b ≡ true → IsAmong n os) → ((os' : List ℕ) → ((k : ℕ) → k < n → p k ≡ true → IsAmong k os') → count_by p (first_numbers n) ≤ length os')
    → ((k : ℕ) → k < n → p k ≡ true → IsAmong k os) → count_by p (first_numbers n) + cond b 1 0 ≤ length os
step p n true e os m ih f =
    let i = ih (drop_one n os) (λ k l t. still n k os (f k l t) (λ s. omega (arith, l, s))) in
    let l = shorter n os (m refl) in omega (arith, i, l)
step p n false e os m ih f = let i = ih os f in omega (arith, i)

-- at most as many numbers below n pass as a list has that holds all that pass
pub covered_count : (p : ℕ → Bool) (n : ℕ) (os : List ℕ) → ((k : ℕ) → k < n → p k ≡ true → IsAmong k os) → count_by p (first_numbers n) ≤ length os
covered_count p zero os f = omega arith
covered_count p (suc n) os f =
    subst (λ xs. count_by p xs ≤ length os) (sym (last_number n)) (
    let s = sum_by-append (λ x. cond (p x) 1 0) (first_numbers n) (n ∷ []) in
    let t = step p n (p n) refl os (λ t. f n (omega arith) t) (λ qs g. covered_count p n qs g) (λ k l t. f k (omega (arith, l)) t) in
    omega (arith, s, t))

-- of the numbers below n that pass there is none, or one is the last
pub last_passing : (p : ℕ → Bool) (n : ℕ) → ((k : ℕ) → k < n → p k ≡ true → ⊥) ⊎ ((k : ℕ) × (k < n) × (p k ≡ true) × ((i : ℕ) → i < n → p i ≡ true → i ≤ k))
last_passing p zero = inl (λ k l t. omega (arith, l))
last_passing p (suc n) = elim (p n) as (λ b. p n ≡ b → ((k : ℕ) → k < suc n → p k ≡ true → ⊥) ⊎ ((k : ℕ) × (k < suc n) × (p k ≡ true) × ((i : ℕ) → i < suc n → p i ≡ true → i ≤ k))) [
  | true ↦ λ e. inr (n, omega arith, e, λ i l t. omega (arith, l))
  | false ↦ λ e. ⊎_elim
      (λ h. inl (λ k l t. ⊎_elim (λ s. let z : true ≡ false = sym t ∙ (ap p s ∙ e) in cc) (λ ne. h k (omega (arith, l, ne)) t) (cases_eq k n)))
      (λ h. inr (h.0, (let l = h.1 in omega (arith, l)), h.2, λ i l t. ⊎_elim (λ s. let z : true ≡ false = sym t ∙ (ap p s ∙ e) in cc) (λ ne. h.3 i (omega (arith, l, ne)) t) (cases_eq i n)))
      (last_passing p n)
] refl
