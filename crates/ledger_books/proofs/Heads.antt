-- The events in front of a place.
use Rattle.res_ledger.specs.Ledger.{IsLegal}
use Rattle.std.proofs.Common.{◌≡◌, ℕ, zero, suc, ◌<◌, ◌≤◌, ◌+◌, List, [], ◌∷◌, ◌++◌, refl, ap, ◌∙◌, length, arith, take, drop, get_or}

pub at_place : {A : Type 0} (xs : List A) (i : ℕ) (d : A) → i < length xs → (xs ≡ take i xs ++ get_or xs i d ∷ drop (suc i) xs) × (length (take i xs) ≡ i) × (take (suc i) xs ≡ take i xs ++ get_or xs i d ∷ [])
at_place [] i d l = absurd (omega arith)
at_place (x ∷ xs) zero d l = (refl, refl, refl)
at_place (x ∷ xs) (suc i) d l = let t = at_place xs i d (omega arith) in (ap (λ l. x ∷ l) t.0, ap suc t.1, ap (λ l. x ∷ l) t.2)

pub one_more : {A : Type 0} (xs : List A) (i : ℕ) (d : A) → i < length xs → take (i + 1) xs ≡ take i xs ++ get_or xs i d ∷ []
one_more xs i d l = let e : i + 1 ≡ suc i = omega arith in ap (λ n. take n xs) e ∙ (at_place xs i d l).2

pub whole : {A : Type 0} (xs : List A) (i : ℕ) → length xs ≤ i → take i xs ≡ xs
whole [] zero l = refl
whole [] (suc i) l = refl
whole (x ∷ xs) zero l = absurd (omega arith)
whole (x ∷ xs) (suc i) l = ap (λ l. x ∷ l) (whole xs i (omega arith))

pub none_legal : IsLegal []
none_legal [] Q e h = cc
none_legal (x ∷ P) Q e h = cc
