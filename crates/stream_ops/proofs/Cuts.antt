-- Lists cut at a place, where they go on.
use Rattle.std.proofs.Common.{◌≡◌, ℕ, zero, suc, ◌-◌, List, [], ◌∷◌, ◌++◌, length, drop, refl, ap, arith}
use Rattle.std.proofs.Math.Nat.{sub-zero, suc-sub-suc}

module _ {A : Type 0} where
  -- what is passed over of a list, and then of what follows
  pub drop-append : (n : ℕ) (xs ys : List A) → drop n xs ++ drop (n - length xs) ys ≡ drop n (xs ++ ys)
  drop-append zero xs ys = let none : zero - length xs ≡ zero = omega arith in ap (λ k. xs ++ drop k ys) none
  drop-append (suc n) [] ys = rw (sub-zero) refl
  drop-append (suc n) (x ∷ xs) ys = rw (suc-sub-suc) (drop-append n xs ys)
