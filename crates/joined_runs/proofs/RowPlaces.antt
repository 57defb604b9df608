-- Where the rows of tables and of streams stand among all rows.
use Rattle.std.proofs.Common.{◌≡◌, ℕ, zero, suc, ◌-◌, ◌<◌, ◌≤◌, List, [], ◌∷◌, ◌++◌, map, length, Some, refl, ◌∙◌, ap, arith}
use Rattle.std.proofs.lemmas.List.{length-map}
use Rattle.run_rules.specs.Facts.{at}

module _ {A : Type 0} where
  -- an element of the first list
  pub at_left : (xs ys : List A) (i : ℕ) → i < length xs → at (xs ++ ys) i ≡ at xs i
  at_left [] ys i l = absurd (omega arith)
  at_left (x ∷ xs) ys zero l = refl
  at_left (x ∷ xs) ys (suc i) l = at_left xs ys i (omega arith)

  -- and of the second
  pub at_right : (xs ys : List A) (i : ℕ) → length xs ≤ i → at (xs ++ ys) i ≡ at ys (i - length xs)
  at_right [] ys i l = let same : i ≡ i - 0 = omega arith in ap (at ys) same
  at_right (x ∷ xs) ys zero l = absurd (omega arith)
  at_right (x ∷ xs) ys (suc i) l = let same : i - length xs ≡ suc i - suc (length xs) = omega arith in at_right xs ys i (omega arith) ∙ ap (at ys) same

-- the same stands at each place of a list of which each element is mapped to it
pub at_each : {A B : Type 0} (b : B) (xs : List A) (i : ℕ) → i < length xs → at (map (λ x. b) xs) i ≡ Some b
at_each b [] i l = absurd (omega arith)
at_each b (x ∷ xs) zero l = refl
at_each b (x ∷ xs) (suc i) l = at_each b xs i (omega arith)

module _ {A B : Type 0} (b : B) (xs : List A) (ys : List B) where
  -- whose the rows of the first list are, and whose those behind them
  pub owner_left : (i : ℕ) → i < length xs → at (map (λ x. b) xs ++ ys) i ≡ Some b
  owner_left i l = at_left (map (λ x. b) xs) ys i (let m = length-map xs (λ x. b) in omega (arith, l, m)) ∙ at_each b xs i l

  pub owner_right : (i : ℕ) → length xs ≤ i → at (map (λ x. b) xs ++ ys) i ≡ at ys (i - length xs)
  owner_right i l = let m = length-map xs (λ x. b) in at_right (map (λ x. b) xs) ys i (omega (arith, l, m)) ∙ ap (λ n. at ys (i - n)) m
