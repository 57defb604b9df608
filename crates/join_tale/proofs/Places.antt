-- Lists by place and by their last element.
use Rattle.std.proofs.Common.{◌≡◌, ◌⊎◌, ℕ, zero, suc, ◌<◌, ◌≤◌, Bool, true, false, ◌||◌, List, [], ◌∷◌, ◌++◌, length, Option, Some, None, IfSome, inl, inr, refl, sym, ap, subst, ⊎_elim, arith, is_some}
use Rattle.std.specs.List.{last_or}
use Rattle.std.proofs.lemmas.Bool.{false≢true}
use Rattle.chunk_core.specs.Lists.{IsAmong}
use Rattle.chunk_core.specs.Lists.IsAmong.{here, there}
use Rattle.run_rules.specs.Facts.{at}

pub none_some : {A : Type 0} {x : A} → None ≡ Some x → ⊥
none_some e = cc

pub none_is_some : {A : Type 0} (o : Option A) → o ≡ None → is_some o ≡ true → ⊥
none_is_some None e h = absurd (false≢true h)
none_is_some (Some x) e h = absurd (none_some (sym e))

pub some_is : {A : Type 0} (x y : A) → Some x ≡ Some y → x ≡ y
some_is x y e = cc

pub not_both : (b : Bool) → b ≡ false → b ≡ true → ⊥
not_both true e f = cc
not_both false e f = cc

pub or_false : (a b : Bool) → (a || b) ≡ false → (a ≡ false) × (b ≡ false)
or_false true b e = absurd (not_both true e refl)
or_false false b e = (refl, e)

module _ {A : Type 0} where
  pub at_left : (xs ys : List A) (k : ℕ) (x : A) → at xs k ≡ Some x → at (xs ++ ys) k ≡ Some x
  at_left [] ys k x e = absurd (none_some e)
  at_left (y ∷ xs) ys zero x e = e
  at_left (y ∷ xs) ys (suc k) x e = at_left xs ys k x e

  pub at_snoc : (xs : List A) (y : A) (k : ℕ) (x : A) → at (xs ++ y ∷ []) k ≡ Some x → (at xs k ≡ Some x) ⊎ ((k ≡ length xs) × (x ≡ y))
  at_snoc [] y zero x e = inr (refl, sym (some_is y x e))
  at_snoc [] y (suc k) x e = absurd (none_some e)
  at_snoc (z ∷ xs) y zero x e = inl e
  at_snoc (z ∷ xs) y (suc k) x e = ⊎_elim (λ o. inl o) (λ o. inr (omega (arith, o.0), o.1)) (at_snoc xs y k x e)

  pub at_last : (xs : List A) (y : A) → at (xs ++ y ∷ []) (length xs) ≡ Some y
  at_last [] y = refl
  at_last (x ∷ xs) y = at_last xs y

  pub at_below : (xs : List A) (k : ℕ) (x : A) → at xs k ≡ Some x → k < length xs
  at_below [] k x e = absurd (none_some e)
  at_below (y ∷ xs) zero x e = omega arith
  at_below (y ∷ xs) (suc k) x e = omega (arith, at_below xs k x e)

  pub at_some : (xs : List A) (k : ℕ) → k < length xs → (x : A) × (at xs k ≡ Some x)
  at_some [] k l = absurd (omega arith)
  at_some (x ∷ xs) zero l = (x, refl)
  at_some (x ∷ xs) (suc k) l = at_some xs k (omega arith)

  pub last_snoc : (l : Option A) (xs : List A) (y : A) → last_or l (xs ++ y ∷ []) ≡ Some y
  last_snoc l [] y = refl
  last_snoc l (x ∷ xs) y = last_snoc (Some x) xs y

  pub last_among : (l : Option A) (xs : List A) (y : A) → last_or l xs ≡ Some y → IsAmong y xs ⊎ (l ≡ Some y)
  last_among l [] y e = inr e
  last_among l (x ∷ xs) y e = ⊎_elim (λ m. inl (there x m)) (λ s. inl (subst (λ z. IsAmong z (x ∷ xs)) (some_is x y s) (here xs))) (last_among (Some x) xs y e)

-- one more than what is within the bound, and isn't the bound
pub within_more : (o : Option ℕ) (a b : ℕ) → IfSome o (λ n. a ≤ n) → (o ≡ Some a → ⊥) → b ≡ suc a → IfSome o (λ n. b ≤ n)
within_more None a b h n e = tt
within_more (Some m) a b h n e = ⊎_elim (λ (l : a < m). let more : b ≤ m = omega (arith, l, e) in more) (λ (l : m ≤ a). absurd (n (ap (λ q. Some q) (same h l)))) (lt_or a m)
  where
    lt_or : (x y : ℕ) → (x < y) ⊎ (y ≤ x)
    lt_or x y = grind arith

    same : a ≤ m → m ≤ a → m ≡ a
    same l r = omega (arith, l, r)
