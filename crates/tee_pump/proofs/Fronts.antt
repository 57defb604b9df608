-- Fronts of lists, and of lists that end with one that is unlike the others.
use Rattle.std.proofs.Common.{◌≡◌, ◌⊎◌, List, [], ◌∷◌, ◌++◌, map, inl, inr, refl, sym, ap, ◌∙◌, subst, ⊎_elim, append_assoc}
use Rattle.std.proofs.lemmas.Grind.{flat_map-append}
use Rattle.std.specs.List.{flat_map}
use Rattle.chunk_core.specs.Lists.{IsAmong}
use Rattle.chunk_core.specs.Lists.IsAmong.{here}
use Rattle.chunk_core.proofs.Members.{among_cons, among_last, among_left, among_nil}
use Rattle.pull_nodes.specs.Plain.{IsFront}

module _ {A : Type 0} where
  tail_of : List A → List A
  tail_of [] = []
  tail_of (x ∷ xs) = xs

  head_or : A → List A → A
  head_or d [] = d
  head_or d (x ∷ xs) = x

  pub cons_head : (x y : A) (xs ys : List A) → x ∷ xs ≡ y ∷ ys → x ≡ y
  unfolding head_or
  cons_head x y xs ys e = ap (head_or x) e

  pub cons_tail : (x y : A) (xs ys : List A) → x ∷ xs ≡ y ∷ ys → xs ≡ ys
  unfolding tail_of
  cons_tail x y xs ys e = ap tail_of e

  pub cons_nil : (x : A) (xs : List A) → x ∷ xs ≡ [] → ⊥
  cons_nil x xs e = among_nil (subst (λ l. IsAmong x l) e (here xs))

  pub nils : (xs ys : List A) → xs ++ ys ≡ [] → (xs ≡ []) × (ys ≡ [])
  nils [] ys e = (refl, e)
  nils (x ∷ xs) ys e = absurd (cons_nil x (xs ++ ys) e)

  pub snoc_same : (xs ys : List A) (x y : A) → xs ++ x ∷ [] ≡ ys ++ y ∷ [] → (xs ≡ ys) × (x ≡ y)
  snoc_same [] [] x y e = (refl, cons_head x y [] [] e)
  snoc_same [] (z ∷ ys) x y e = absurd (among_nil (subst (λ l. IsAmong y l) (sym (cons_tail x z [] (ys ++ y ∷ []) e)) (among_last ys y)))
  snoc_same (z ∷ xs) [] x y e = absurd (among_nil (subst (λ l. IsAmong x l) (cons_tail z y (xs ++ x ∷ []) [] e) (among_last xs x)))
  snoc_same (z ∷ xs) (w ∷ ys) x y e =
      let h = snoc_same xs ys x y (cons_tail z w (xs ++ x ∷ []) (ys ++ y ∷ []) e) in
      (ap (λ l. z ∷ l) h.0 ∙ ap (λ v. v ∷ ys) (cons_head z w (xs ++ x ∷ []) (ys ++ y ∷ []) e), h.1)

  pub front_then : (xs ys zs : List A) → IsFront xs ys → IsFront ys zs → IsFront xs zs
  front_then xs ys zs f g = (f.0 ++ g.0, g.1 ∙ (ap (λ l. l ++ g.0) f.1 ∙ append_assoc xs f.0 g.0))

  pub front_among : (xs ys : List A) (x : A) → IsFront xs ys → IsAmong x xs → IsAmong x ys
  front_among xs ys x f m = subst (λ l. IsAmong x l) (sym f.1) (among_left f.0 m)

-- all of the list, with the last one; or some of the others
abbrev pub IsCutOf : {P X : Type 0} → (P → X) → X → List P → List X → List X → Type 0
IsCutOf {P} f z ps a b = ((a ≡ map f ps ++ z ∷ []) × (b ≡ [])) ⊎ ((p : List P) × (q : List P) × (p ++ q ≡ ps) × (a ≡ map f p))

pub cut_of : {P X : Type 0} (f : P → X) (z : X) (ps : List P) (a b : List X) → a ++ b ≡ map f ps ++ z ∷ [] → IsCutOf f z ps a b
cut_of f z ps [] b e = inr ([], ps, refl, refl)
cut_of f z [] (x ∷ a) b e =
    let n = nils a b (cons_tail x z (a ++ b) [] e) in
    inl (ap (λ y. y ∷ a) (cons_head x z (a ++ b) [] e) ∙ ap (λ l. z ∷ l) n.0, n.1)
cut_of {P} {X} f z (p ∷ ps) (x ∷ a) b e = more (cut_of f z ps a b (cons_tail x (f p) (a ++ b) (map f ps ++ z ∷ []) e))
  where
    head : x ≡ f p
    head = cons_head x (f p) (a ++ b) (map f ps ++ z ∷ []) e

    more : IsCutOf f z ps a b → IsCutOf f z (p ∷ ps) (x ∷ a) b
    more (inl t) = inl (ap (λ y. y ∷ a) head ∙ ap (λ l. f p ∷ l) t.0, t.1)
    more (inr t) = inr (p ∷ t.0, t.1, ap (λ l. p ∷ l) t.2, ap (λ y. y ∷ a) head ∙ ap (λ l. f p ∷ l) t.3)

-- one that no f gives is among none of those
pub not_mapped : {P X : Type 0} (f : P → X) (z : X) → ((p : P) → z ≡ f p → ⊥) → (ps : List P) → IsAmong z (map f ps) → ⊥
not_mapped f z n [] m = among_nil m
not_mapped f z n (p ∷ ps) m = ⊎_elim (λ e. n p e) (λ o. not_mapped f z n ps o) (among_cons m)

-- it stands last alone
pub last_alone : {P X : Type 0} (f : P → X) (z y : X) → ((p : P) → y ≡ f p → ⊥) → (ps : List P) → IsAmong y (map f ps ++ z ∷ []) → y ≡ z
last_alone f z y n [] m = ⊎_elim (λ e. e) (λ o. absurd (among_nil o)) (among_cons m)
last_alone f z y n (p ∷ ps) m = ⊎_elim (λ e. absurd (n p e)) (λ o. last_alone f z y n ps o) (among_cons m)

pub same_mapped : {P X : Type 0} (f : P → X) → ((p q : P) → f p ≡ f q → p ≡ q) → (ps qs : List P) → map f ps ≡ map f qs → ps ≡ qs
same_mapped f i [] [] e = refl
same_mapped f i [] (q ∷ qs) e = absurd (cons_nil (f q) (map f qs) (sym e))
same_mapped f i (p ∷ ps) [] e = absurd (cons_nil (f p) (map f ps) e)
same_mapped f i (p ∷ ps) (q ∷ qs) e = ap (λ x. x ∷ ps) (i p q (cons_head (f p) (f q) (map f ps) (map f qs) e)) ∙ ap (λ l. q ∷ l) (same_mapped f i ps qs (cons_tail (f p) (f q) (map f ps) (map f qs) e))

-- what is made of a front is a front
pub front_made : {A B : Type 0} (f : A → List B) (xs ys zs : List A) → xs ++ ys ≡ zs → IsFront (flat_map f xs) (flat_map f zs)
front_made f xs ys zs e = (flat_map f ys, ap (λ l. flat_map f l) (sym e) ∙ flat_map-append f xs ys)
