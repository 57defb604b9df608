-- Membership in a list read from its end.
use Rattle.std.proofs.Common.{◌≡◌, List, [], ◌∷◌, ◌++◌, reverse, sym, subst, ⊎_elim}
use Rattle.std.proofs.lemmas.Grind.{reverse_onto}
use Rattle.chunk_core.specs.Lists.{IsAmong}
use Rattle.chunk_core.specs.Lists.IsAmong.{here, there}
use Rattle.chunk_core.proofs.Members.{among_cons, among_last, among_left, among_snoc}

module _ {A : Type 0} where
  pub reverse_cons : (x : A) (xs : List A) → reverse (x ∷ xs) ≡ reverse xs ++ x ∷ []
  reverse_cons x xs = reverse_onto xs x []

  pub among_reverse : (x : A) (xs : List A) → IsAmong x (reverse xs) → IsAmong x xs
  among_reverse x [] m = m
  among_reverse x (y ∷ xs) m = ⊎_elim (λ n. there y (among_reverse x xs n)) (λ e. subst (λ z. IsAmong x (z ∷ xs)) e (here xs)) (among_snoc (reverse xs) x y (subst (IsAmong x) (reverse_cons y xs) m))

  pub reverse_among : (x : A) (xs : List A) → IsAmong x xs → IsAmong x (reverse xs)
  reverse_among x [] m = m
  reverse_among x (y ∷ xs) m = subst (IsAmong x) (sym (reverse_cons y xs)) (⊎_elim (λ e. subst (λ z. IsAmong z (reverse xs ++ y ∷ [])) (sym e) (among_last (reverse xs) y)) (λ n. among_left (y ∷ []) (reverse_among x xs n)) (among_cons m))
