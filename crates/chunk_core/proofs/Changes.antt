-- Lists of views of which two become others, or to which one is added.
use Rattle.std.proofs.Common.{◌≡◌, ◌≢◌, ℕ, zero, suc, ◌+◌, ◌⊎◌, map, List, [], ◌∷◌, ◌++◌, length, slice_set, inl, inr, refl, sym, ap, ◌∙◌, subst, ⊎_elim, arith}
use Rattle.std.proofs.lemmas.Bool.{cases_eq}
use mathlib.Core.Option.{some-ne-none, some-injective}
use Rattle.std.proofs.lemmas.List.{length-set, map_push}
use Rattle.chunk_core.specs.Totals.{IsAt, total}
use Rattle.chunk_core.proofs.Places.{at_last, at_longer, at_set}
use Rattle.chunk_core.proofs.Totals.{map_put, one_at, put_else, put_here, total_push, total_set}

-- one view is new and one more is added
module _ {V : Type 0} where
  pub at_more : (xs : List V) (a : V) (i : ℕ) (u : V) → IsAt (xs ++ a ∷ []) i u → IsAt xs i u ⊎ ((i ≡ length xs) × (a ≡ u))
  at_more [] a zero u g = inr (refl, some-injective a u g)
  at_more [] a (suc i) u g = absurd (some-ne-none u (sym g))
  at_more (x ∷ xs) a zero u g = inl g
  at_more (x ∷ xs) a (suc i) u g = ⊎_elim (λ o. inl o) (λ t. inr (ap suc t.0, t.1)) (at_more xs a i u g)

  module _ (xs : List V) (id : ℕ) (v a b : V) (at : IsAt xs id v) where
    pub sorted : (i : ℕ) (u : V) → IsAt (slice_set xs id a ++ b ∷ []) i u → ((i ≡ id) × (a ≡ u)) ⊎ (((i ≢ id) × IsAt xs i u) ⊎ ((i ≡ length xs) × (b ≡ u)))
    sorted i u g = ⊎_elim (λ o. ⊎_elim (λ t. inl t) (λ t. inr (inl t)) (at_set xs id i a u o)) (λ t. inr (inr (t.0 ∙ length-set xs id a, t.1))) (at_more (slice_set xs id a) b i u g)

    pub each_more : (Q : ℕ → V → Type 0) → Q id a → ((i : ℕ) (u : V) → i ≢ id → IsAt xs i u → Q i u) → Q (length xs) b → (i : ℕ) (u : V) → IsAt (slice_set xs id a ++ b ∷ []) i u → Q i u
    each_more Q first others last i u g = ⊎_elim
        (λ t. subst (λ z. Q i z) t.1 (subst (λ n. Q n a) (sym t.0) first))
        (λ o. ⊎_elim (λ t. others i u t.0 t.1) (λ t. subst (λ z. Q i z) t.1 (subst (λ n. Q n b) (sym t.0) last)) o)
        (sorted i u g)

    pub more_here : IsAt (slice_set xs id a ++ b ∷ []) id a
    more_here = at_longer (slice_set xs id a) (b ∷ []) id a (put_here xs id v a at)

    pub more_else : (i : ℕ) (u : V) → i ≢ id → IsAt xs i u → IsAt (slice_set xs id a ++ b ∷ []) i u
    more_else i u ne g = at_longer (slice_set xs id a) (b ∷ []) i u (put_else xs id i u a ne g)

    pub more_last : IsAt (slice_set xs id a ++ b ∷ []) (length xs) b
    more_last = at_last (slice_set xs id a) b (length xs) (length-set xs id a)

    pub total_more : (f : V → ℕ) → total f (slice_set xs id a ++ b ∷ []) + f v ≡ total f xs + f a + f b
    total_more f = let s = total_set f xs id v a at in let t = total_push f (slice_set xs id a) b in omega arith

    -- some view of the old list, carried over
    pub some_more : (Q : V → Type 0) → (Q v → Q a ⊎ Q b) → (i : ℕ) × (u : V) × IsAt xs i u × Q u → (i : ℕ) × (u : V) × IsAt (slice_set xs id a ++ b ∷ []) i u × Q u
    some_more Q f t = ⊎_elim
        (λ e. ⊎_elim (λ q. (id, a, more_here, q)) (λ q. (length xs, b, more_last, q)) (f (subst Q (one_at xs id t.1 v (subst (λ n. IsAt xs n t.1) e t.2) at) t.3)))
        (λ ne. (t.0, t.1, more_else t.0 t.1 ne t.2, t.3))
        (cases_eq t.0 id)

    pub some_less : (Q : V → Type 0) → (Q a → Q v) → ¬ (Q b) → (i : ℕ) × (u : V) × IsAt (slice_set xs id a ++ b ∷ []) i u × Q u → (i : ℕ) × (u : V) × IsAt xs i u × Q u
    some_less Q f none t = each_more (λ i u. Q u → (i : ℕ) × (u : V) × IsAt xs i u × Q u) (λ q. (id, v, at, f q)) (λ i u ne g q. (i, u, g, q)) (λ q. absurd (none q)) t.0 t.1 t.2 t.3

pub map_more : {V W : Type 0} (f : V → W) (xs : List V) (id : ℕ) (a b : V) → map f (slice_set xs id a ++ b ∷ []) ≡ slice_set (map f xs) id (f a) ++ f b ∷ []
map_more f xs id a b = map_push f (slice_set xs id a) b ∙ ap (λ l. l ++ f b ∷ []) (map_put f xs id a)

-- two views are new
module _ {V : Type 0} (xs : List V) (id jd : ℕ) (v w a b : V) (at : IsAt xs id v) (at' : IsAt xs jd w) (ne : id ≢ jd) where
  pub sorted_two : (i : ℕ) (u : V) → IsAt (slice_set (slice_set xs id a) jd b) i u → ((i ≡ id) × (a ≡ u)) ⊎ (((i ≡ jd) × (b ≡ u)) ⊎ ((i ≢ id) × (i ≢ jd) × IsAt xs i u))
  sorted_two i u g = ⊎_elim (λ t. inr (inl t)) (λ t. ⊎_elim (λ s. inl s) (λ s. inr (inr (s.0, t.0, s.1))) (at_set xs id i a u t.1)) (at_set (slice_set xs id a) jd i b u g)

  pub each_two : (Q : ℕ → V → Type 0) → Q id a → Q jd b → ((i : ℕ) (u : V) → i ≢ id → i ≢ jd → IsAt xs i u → Q i u) → (i : ℕ) (u : V) → IsAt (slice_set (slice_set xs id a) jd b) i u → Q i u
  each_two Q first second others i u g = ⊎_elim
      (λ t. subst (λ z. Q i z) t.1 (subst (λ n. Q n a) (sym t.0) first))
      (λ o. ⊎_elim (λ t. subst (λ z. Q i z) t.1 (subst (λ n. Q n b) (sym t.0) second)) (λ t. others i u t.0 t.1 t.2) o)
      (sorted_two i u g)

  pub two_first : IsAt (slice_set (slice_set xs id a) jd b) id a
  two_first = put_else (slice_set xs id a) jd id a b ne (put_here xs id v a at)

  pub two_second : IsAt (slice_set (slice_set xs id a) jd b) jd b
  two_second = put_here (slice_set xs id a) jd w b (put_else xs id jd w a (λ e. ne (sym e)) at')

  pub two_else : (i : ℕ) (u : V) → i ≢ id → i ≢ jd → IsAt xs i u → IsAt (slice_set (slice_set xs id a) jd b) i u
  two_else i u n m g = put_else (slice_set xs id a) jd i u b m (put_else xs id i u a n g)

  pub total_both : (f : V → ℕ) → total f (slice_set (slice_set xs id a) jd b) + f v + f w ≡ total f xs + f a + f b
  total_both f = let s = total_set f xs id v a at in let t = total_set f (slice_set xs id a) jd w b (put_else xs id jd w a (λ e. ne (sym e)) at') in omega arith

  pub some_two : (Q : V → Type 0) → (Q v → Q a) → (Q w → Q a) → (i : ℕ) × (u : V) × IsAt xs i u × Q u → (i : ℕ) × (u : V) × IsAt (slice_set (slice_set xs id a) jd b) i u × Q u
  some_two Q f g t = ⊎_elim
      (λ e. (id, a, two_first, f (subst Q (one_at xs id t.1 v (subst (λ n. IsAt xs n t.1) e t.2) at) t.3)))
      (λ n. ⊎_elim (λ e. (id, a, two_first, g (subst Q (one_at xs jd t.1 w (subst (λ n. IsAt xs n t.1) e t.2) at') t.3))) (λ m. (t.0, t.1, two_else t.0 t.1 n m t.2, t.3)) (cases_eq t.0 jd))
      (cases_eq t.0 id)

  pub two_back : (Q : V → Type 0) → (Q a → Q v ⊎ Q w) → ¬ (Q b) → (i : ℕ) × (u : V) × IsAt (slice_set (slice_set xs id a) jd b) i u × Q u → (i : ℕ) × (u : V) × IsAt xs i u × Q u
  two_back Q f none t = each_two (λ i u. Q u → (i : ℕ) × (u : V) × IsAt xs i u × Q u) (λ q. ⊎_elim (λ s. (id, v, at, s)) (λ s. (jd, w, at', s)) (f q)) (λ q. absurd (none q)) (λ i u n m g q. (i, u, g, q)) t.0 t.1 t.2 t.3

pub map_two : {V W : Type 0} (f : V → W) (xs : List V) (id jd : ℕ) (a b : V) → map f (slice_set (slice_set xs id a) jd b) ≡ slice_set (slice_set (map f xs) id (f a)) jd (f b)
map_two f xs id jd a b = map_put f (slice_set xs id a) jd b ∙ ap (λ l. slice_set l jd (f b)) (map_put f xs id a)
