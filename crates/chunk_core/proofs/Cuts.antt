-- A list cut at a place, and lists set end to end.
use Rattle.std.proofs.Common.{◌≡◌, ◌⊎◌, List, [], ◌∷◌, ◌++◌, length, drop, get_or, inl, inr, refl, sym, ap, ◌∙◌, subst, ⊎_elim, arith, length-append}
use Rattle.chunk_core.specs.Lists.{IsAmong}
use Rattle.chunk_core.specs.Lists.IsAmong.{here, there}

pub append_nil : {A : Type 0} (L : List A) → L ++ [] ≡ L
append_nil [] = refl
append_nil (x ∷ L) = ap (λ l. x ∷ l) (append_nil L)

pub append_assoc : {A : Type 0} (L M N : List A) → (L ++ M) ++ N ≡ L ++ (M ++ N)
append_assoc [] M N = refl
append_assoc (x ∷ L) M N = ap (λ l. x ∷ l) (append_assoc L M N)

module _ {A : Type 0} where
  pub cut : (x : A) (xs ys : List A) (y : A) → x ∷ xs ≡ y ∷ ys → (x ≡ y) × (xs ≡ ys)
  cut x xs ys y e = (ap (λ l. get_or l 0 x) e, ap (λ l. drop 1 l) e)

  no_nil : (P : List A) (x : A) (Q : List A) → [] ≡ P ++ x ∷ Q → ⊥
  no_nil P x Q e = let l = ap length e in let m = length-append P (x ∷ Q) in omega arith

  pub split_snoc : (L P Q : List A) (e x : A) → L ++ e ∷ [] ≡ P ++ x ∷ Q → ((L ≡ P) × (e ≡ x)) ⊎ ((R : List A) × (L ≡ P ++ x ∷ R))
  split_snoc [] [] Q e x h = inl (refl, (cut e [] Q x h).0)
  split_snoc [] (p ∷ P) Q e x h = absurd (no_nil P x Q (cut e [] (P ++ x ∷ Q) p h).1)
  split_snoc (l ∷ L) [] Q e x h = inr (L, ap (λ y. y ∷ L) (cut l (L ++ e ∷ []) Q x h).0)
  split_snoc (l ∷ L) (p ∷ P) Q e x h =
      let t = cut l (L ++ e ∷ []) (P ++ x ∷ Q) p h in
      ⊎_elim (λ s. inl (ap (λ y. y ∷ L) t.0 ∙ ap (λ z. p ∷ z) s.0, s.1)) (λ s. inr (s.0, ap (λ y. y ∷ L) t.0 ∙ ap (λ z. p ∷ z) s.1)) (split_snoc L P Q e x t.1)

  pub two_places : (P Q P' Q' : List A) (e f : A) → P ++ e ∷ Q ≡ P' ++ f ∷ Q' → ((e ≡ f) × (P ≡ P')) ⊎ (IsAmong e P' ⊎ IsAmong f P)
  two_places [] Q [] Q' e f h = inl ((cut e Q Q' f h).0, refl)
  two_places [] Q (p ∷ P') Q' e f h = inr (inl (subst (λ y. IsAmong e (y ∷ P')) (cut e Q (P' ++ f ∷ Q') p h).0 (here P')))
  two_places (p ∷ P) Q [] Q' e f h = inr (inr (subst (λ y. IsAmong f (y ∷ P)) (sym (cut p (P ++ e ∷ Q) Q' f h).0) (here P)))
  two_places (p ∷ P) Q (q ∷ P') Q' e f h =
      let t = cut p (P ++ e ∷ Q) (P' ++ f ∷ Q') q h in
      ⊎_elim (λ s. inl (s.0, ap (λ y. y ∷ P) t.0 ∙ ap (λ l. q ∷ l) s.1)) (λ s. ⊎_elim (λ m. inr (inl (there q m))) (λ m. inr (inr (there p m))) s) (two_places P Q P' Q' e f t.1)

pub among_parts : {A : Type 0} (x : A) (xs : List A) → IsAmong x xs → (P Q : List A) × (xs ≡ P ++ x ∷ Q)
among_parts x xs (here ys) = ([], ys, refl)
among_parts x xs (there {xs = ys} y h) = let t = among_parts x ys h in (y ∷ t.0, t.1, ap (λ l. y ∷ l) t.2)
