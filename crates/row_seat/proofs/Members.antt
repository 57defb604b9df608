-- Lists without a number.
use Rattle.std.proofs.Common.{◌≡◌, ◌+◌, ◌<◌, ◌≤◌, length, zero, suc, arith, ◌≢◌, ℕ, Bool, true, false, not, cond, eqb, filter, List, [], ◌∷◌, sym, ◌∙◌, subst, ⊎_elim, ne_eqb, eq-eqb}
use Rattle.std.proofs.lemmas.Bool.{cases_eq}
use Rattle.chunk_core.specs.Lists.{IsAmong}
use Rattle.chunk_core.proofs.Members.{among_cons, among_nil}
use Rattle.chunk_core.specs.Lists.IsAmong.{here, there}
use Rattle.row_seat.specs.Steps.{without_one}
use Rattle.row_seat.specs.Views.{without}

pub among_without : (q : ℕ) (xs : List ℕ) (r : ℕ) → IsAmong r (without q xs) → IsAmong r xs × (r ≢ q)
among_without q [] r h = absurd (among_nil h)
among_without q (x ∷ xs) r h =
    ⊎_elim
    (λ e. let h' : IsAmong r (without q xs) = subst (λ b. IsAmong r (cond (not b) (x ∷ without q xs) (without q xs))) (eq-eqb x q e) h in let t = among_without q xs r h' in (there x t.0, t.1))
    (λ ne. let h' : IsAmong r (x ∷ without q xs) = subst (λ b. IsAmong r (cond (not b) (x ∷ without q xs) (without q xs))) (ne_eqb x q ne) h in
    ⊎_elim (λ e. (subst (λ w. IsAmong r (w ∷ xs)) e (here xs), λ s. ne (sym e ∙ s))) (λ n. let t = among_without q xs r n in (there x t.0, t.1)) (among_cons h'))
    (cases_eq x q)

pub among_kept : (q : ℕ) (xs : List ℕ) (r : ℕ) → IsAmong r xs → r ≢ q → IsAmong r (without q xs)
among_kept q [] r h ne = absurd (among_nil h)
among_kept q (x ∷ xs) r h ne =
    ⊎_elim
    (λ e. subst (λ b. IsAmong r (cond (not b) (x ∷ without q xs) (without q xs))) (sym (eq-eqb x q e)) (⊎_elim (λ s. absurd (ne (s ∙ e))) (λ m. among_kept q xs r m ne) (among_cons h)))
    (λ no'. subst (λ b. IsAmong r (cond (not b) (x ∷ without q xs) (without q xs))) (sym (ne_eqb x q no')) (⊎_elim (λ s. subst (λ w. IsAmong w (x ∷ without q xs)) (sym s) (here (without q xs))) (λ m. there x (among_kept q xs r m ne)) (among_cons h)))
    (cases_eq x q)

pub length_without_le : (q : ℕ) (xs : List ℕ) → length (without q xs) ≤ length xs
length_without_le q [] = omega arith
length_without_le q (x ∷ xs) = elim (eqb x q) as (λ b. length (cond (not b) (x ∷ without q xs) (without q xs)) ≤ suc (length xs)) [ true ↦ let t = length_without_le q xs in omega arith | false ↦ let t = length_without_le q xs in omega arith ]

pub one_shorter : (r : ℕ) (xs : List ℕ) → length (without_one r xs) ≤ length xs
one_shorter r [] = omega arith
one_shorter r (x ∷ xs) = let t = one_shorter r xs in elim (eqb x r) as (λ b. length (cond b xs (x ∷ without_one r xs)) ≤ length (x ∷ xs)) [ true ↦ omega arith | false ↦ omega arith ]

pub length_without : (q : ℕ) (xs : List ℕ) → IsAmong q xs → length (without q xs) + 1 ≤ length xs
length_without q [] h = absurd (among_nil h)
length_without q (x ∷ xs) h =
    ⊎_elim
    (λ e. subst (λ b. length (cond (not b) (x ∷ without q xs) (without q xs)) + 1 ≤ suc (length xs)) (sym (eq-eqb x q e)) (let t = length_without_le q xs in omega arith))
    (λ ne. subst (λ b. length (cond (not b) (x ∷ without q xs) (without q xs)) + 1 ≤ suc (length xs)) (sym (ne_eqb x q ne)) (⊎_elim (λ s. absurd (ne (sym s))) (λ m. let t = length_without q xs m in omega arith) (among_cons h)))
    (cases_eq x q)

-- k numbers in a row stand in no shorter list
pub all_there : (n k : ℕ) (xs : List ℕ) → ((r : ℕ) → n ≤ r → r < n + k → IsAmong r xs) → k ≤ length xs
all_there n zero xs h = omega arith
all_there n (suc k) xs h = let l = length_without n xs (h n (omega arith) (omega arith)) in let t = all_there (suc n) k (without n xs) (λ r a b. among_kept n xs r (h r (omega arith) (omega arith)) (λ e. omega arith)) in omega arith

pub length_cut : {A : Type 0} (f : A → Bool) (xs : List A) → length (filter f xs) + length (filter (λ x. not (f x)) xs) ≡ length xs
length_cut f [] = omega arith
length_cut f (x ∷ xs) = let t = length_cut f xs in elim (f x) as (λ b. length (cond b (x ∷ filter f xs) (filter f xs)) + length (cond (not b) (x ∷ filter (λ x. not (f x)) xs) (filter (λ x. not (f x)) xs)) ≡ length (x ∷ xs)) [ true ↦ omega arith | false ↦ omega arith ]
