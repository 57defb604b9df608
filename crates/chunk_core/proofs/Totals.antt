-- Lists of views of which one becomes another.
use Rattle.std.proofs.Common.{◌≡◌, ◌≢◌, ℕ, zero, suc, ◌+◌, ◌≤◌, map, List, [], ◌∷◌, ◌++◌, slice_set, refl, sym, ap, ◌∙◌, subst, ⊎_elim, arith}
use Rattle.std.proofs.lemmas.Bool.{cases_eq}
use mathlib.Core.Option.{some-ne-none, some-injective}
use Rattle.chunk_core.specs.Totals.{IsAt, total}
use Rattle.chunk_core.proofs.Places.{at_set}

module _ {V : Type 0} where
  -- what holds of the new view and of each other view holds of each
  pub each : (views : List V) (id : ℕ) (w : V) (Q : ℕ → V → Type 0) → Q id w → ((i : ℕ) (u : V) → i ≢ id → IsAt views i u → Q i u) → (i : ℕ) (u : V) → IsAt (slice_set views id w) i u → Q i u
  each views id w Q now others i u g = ⊎_elim (λ t. subst (λ z. Q i z) t.1 (subst (λ n. Q n w) (sym t.0) now)) (λ t. others i u t.0 t.1) (at_set views id i w u g)

  pub put_here : (views : List V) (id : ℕ) (v w : V) → IsAt views id v → IsAt (slice_set views id w) id w
  put_here [] id v w g = absurd (some-ne-none v (sym g))
  put_here (x ∷ xs) zero v w g = refl
  put_here (x ∷ xs) (suc i) v w g = put_here xs i v w g

  pub put_else : (views : List V) (id i : ℕ) (u w : V) → i ≢ id → IsAt views i u → IsAt (slice_set views id w) i u
  put_else [] id i u w ne g = g
  put_else (x ∷ xs) zero zero u w ne g = absurd (ne refl)
  put_else (x ∷ xs) zero (suc i) u w ne g = g
  put_else (x ∷ xs) (suc id) zero u w ne g = g
  put_else (x ∷ xs) (suc id) (suc i) u w ne g = put_else xs id i u w (λ e. ne (ap suc e)) g

  pub one_at : (views : List V) (i : ℕ) (v w : V) → IsAt views i v → IsAt views i w → v ≡ w
  one_at views i v w g h = some-injective v w (sym g ∙ h)

  pub total_set : (f : V → ℕ) (views : List V) (id : ℕ) (v w : V) → IsAt views id v → total f (slice_set views id w) + f v ≡ total f views + f w
  total_set f [] id v w g = absurd (some-ne-none v (sym g))
  total_set f (x ∷ xs) zero v w g = let e : f x ≡ f v = ap f (some-injective x v g) in omega arith
  total_set f (x ∷ xs) (suc i) v w g = let t = total_set f xs i v w g in omega arith

  pub total_at : (f : V → ℕ) (views : List V) (id : ℕ) (v : V) → IsAt views id v → f v ≤ total f views
  total_at f [] id v g = absurd (some-ne-none v (sym g))
  total_at f (x ∷ xs) zero v g = let e : f x ≡ f v = ap f (some-injective x v g) in omega arith
  total_at f (x ∷ xs) (suc i) v g = let t = total_at f xs i v g in omega arith

  pub total_two : (f : V → ℕ) (views : List V) (i j : ℕ) (v w : V) → i ≢ j → IsAt views i v → IsAt views j w → f v + f w ≤ total f views
  total_two f [] i j v w ne g h = absurd (some-ne-none v (sym g))
  total_two f (x ∷ xs) zero zero v w ne g h = absurd (ne refl)
  total_two f (x ∷ xs) zero (suc j) v w ne g h = let e : f x ≡ f v = ap f (some-injective x v g) in let t = total_at f xs j w h in omega arith
  total_two f (x ∷ xs) (suc i) zero v w ne g h = let e : f x ≡ f w = ap f (some-injective x w h) in let t = total_at f xs i v g in omega arith
  total_two f (x ∷ xs) (suc i) (suc j) v w ne g h = let t = total_two f xs i j v w (λ e. ne (ap suc e)) g h in omega arith

  pub total_push : (f : V → ℕ) (views : List V) (w : V) → total f (views ++ w ∷ []) ≡ total f views + f w
  total_push f [] w = omega arith
  total_push f (x ∷ xs) w = let t = total_push f xs w in omega arith

  pub total_append : (f : V → ℕ) (xs ys : List V) → total f (xs ++ ys) ≡ total f xs + total f ys
  total_append f [] ys = omega arith
  total_append f (x ∷ xs) ys = let t = total_append f xs ys in omega arith

  pub total_none : (f : V → ℕ) (views : List V) → ((i : ℕ) (u : V) → IsAt views i u → f u ≡ 0) → total f views ≡ 0
  total_none f [] h = refl
  total_none f (x ∷ xs) h = let t = total_none f xs (λ i u g. h (suc i) u g) in let e = h 0 x refl in omega arith

  pub total_sum : (f g : V → ℕ) (views : List V) → total (λ v. f v + g v) views ≡ total f views + total g views
  total_sum f g [] = refl
  total_sum f g (x ∷ xs) = let t = total_sum f g xs in omega arith

  -- where every other view has nothing
  pub total_alone : (f : V → ℕ) (views : List V) (id : ℕ) (v : V) → IsAt views id v → ((i : ℕ) (u : V) → i ≢ id → IsAt views i u → f u ≡ 0) → total f views ≡ f v
  total_alone f [] id v at others = absurd (some-ne-none v (sym at))
  total_alone f (x ∷ xs) zero v at others = let e : f x ≡ f v = ap f (some-injective x v at) in let t = total_none f xs (λ i u g. others (suc i) u (λ z. omega arith) g) in omega arith
  total_alone f (x ∷ xs) (suc id) v at others = let t = total_alone f xs id v at (λ i u ne g. others (suc i) u (λ z. ne (omega arith)) g) in let e = others 0 x (λ z. omega arith) refl in omega arith

  -- where the total is something, some view has something
  pub total_some : (f : V → ℕ) (views : List V) → 1 ≤ total f views → (i : ℕ) × (v : V) × IsAt views i v × (1 ≤ f v)
  total_some f [] h = absurd (omega arith)
  total_some f (x ∷ xs) h = elim (f x) as (λ n. f x ≡ n → (i : ℕ) × (v : V) × IsAt (x ∷ xs) i v × (1 ≤ f v)) [ zero ↦ λ e. let t = total_some f xs (omega arith) in (suc t.0, t.1, t.2, t.3) | suc n ↦ λ e. (0, x, refl, omega arith) ] refl

  -- where two views have something and the total is at most one, they are one
  pub total_one : (f : V → ℕ) (views : List V) (i j : ℕ) (v w : V) → total f views ≤ 1 → IsAt views i v → IsAt views j w → 1 ≤ f v → 1 ≤ f w → i ≡ j
  total_one f views i j v w le g h a b = ⊎_elim (λ e. e) (λ ne. let t = total_two f views i j v w ne g h in absurd (omega arith)) (cases_eq i j)

module _ {V W : Type 0} (f : V → W) where
  pub total_map : (g : W → ℕ) (views : List V) → total g (map f views) ≡ total (λ (v : V). g (f v)) views
  total_map g [] = refl
  total_map g (v ∷ vs) = ap (λ n. g (f v) + n) (total_map g vs)

  pub map_same : (views : List V) (id : ℕ) (v w : V) → IsAt views id v → f w ≡ f v → map f (slice_set views id w) ≡ map f views
  map_same [] id v w g e = refl
  map_same (x ∷ xs) zero v w g e = ap (λ y. y ∷ map f xs) (e ∙ ap f (sym (some-injective x v g)))
  map_same (x ∷ xs) (suc i) v w g e = ap (λ ys. f x ∷ ys) (map_same xs i v w g e)

  pub map_put : (views : List V) (id : ℕ) (w : V) → map f (slice_set views id w) ≡ slice_set (map f views) id (f w)
  map_put [] id w = refl
  map_put (x ∷ xs) zero w = refl
  map_put (x ∷ xs) (suc i) w = ap (λ ys. f x ∷ ys) (map_put xs i w)

  pub map_back : (views : List V) (i : ℕ) (b : W) → IsAt (map f views) i b → (v : V) × IsAt views i v × (f v ≡ b)
  map_back [] i b g = absurd (some-ne-none b (sym g))
  map_back (x ∷ xs) zero b g = (x, refl, some-injective (f x) b g)
  map_back (x ∷ xs) (suc i) b g = map_back xs i b g

module _ {V : Type 0} (views : List V) (id : ℕ) (v w : V) (at : IsAt views id v) (Q : V → Type 0) where
  pub some_put : (Q v → Q w) → (i : ℕ) × (u : V) × IsAt views i u × Q u → (i : ℕ) × (u : V) × IsAt (slice_set views id w) i u × Q u
  some_put f t = ⊎_elim
      (λ e. (id, w, put_here views id v w at, f (subst Q (one_at views id t.1 v (subst (λ n. IsAt views n t.1) e t.2) at) t.3)))
      (λ ne. (t.0, t.1, put_else views id t.0 t.1 w ne t.2, t.3))
      (cases_eq t.0 id)

  pub some_back : (Q w → Q v) → (i : ℕ) × (u : V) × IsAt (slice_set views id w) i u × Q u → (i : ℕ) × (u : V) × IsAt views i u × Q u
  some_back f t = ⊎_elim
      (λ s. (id, v, at, f (subst Q (sym s.1) t.3)))
      (λ s. (t.0, t.1, s.1, t.3))
      (at_set views id t.0 w t.1 t.2)
