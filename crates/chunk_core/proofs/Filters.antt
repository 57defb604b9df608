-- Membership in filtered lists, in lists set end to end, and at a place.
use Rattle.std.proofs.Common.{◌≡◌, ℕ, zero, suc, ◌<◌, ◌⊎◌, Bool, true, false, cond, filter, List, [], ◌∷◌, ◌++◌, length, inl, inr, refl, sym, ap, ◌∙◌, subst, ⊎_elim, arith, slice_index_or}
use Rattle.chunk_core.specs.Lists.{IsAmong}
use Rattle.chunk_core.proofs.Members.{among_cons, among_nil}
use Rattle.chunk_core.specs.Lists.IsAmong.{here, there}

pub bool_not : true ≡ false → ⊥
bool_not e = cc

module _ {A : Type 0} (f : A → Bool) where
  pub among_filter : (x : A) (xs : List A) → IsAmong x (filter f xs) → IsAmong x xs × (f x ≡ true)
  among_filter x [] h = absurd (among_nil h)
  among_filter x (y ∷ xs) h = (elim (f y) as (λ b. f y ≡ b → IsAmong x (cond b (y ∷ filter f xs) (filter f xs)) → IsAmong x (y ∷ xs) × (f x ≡ true)) [
    | true ↦ λ e m. ⊎_elim (λ s. (subst (λ z. IsAmong x (z ∷ xs)) s (here xs), ap f s ∙ e)) (λ n. let t = among_filter x xs n in (there y t.0, t.1)) (among_cons m)
    | false ↦ λ e m. let t = among_filter x xs m in (there y t.0, t.1)
  ]) refl h

  pub filter_among : (x : A) (xs : List A) → IsAmong x xs → f x ≡ true → IsAmong x (filter f xs)
  filter_among x [] h is = absurd (among_nil h)
  filter_among x (y ∷ xs) h is = (elim (f y) as (λ b. f y ≡ b → IsAmong x (cond b (y ∷ filter f xs) (filter f xs))) [
    | true ↦ λ e. ⊎_elim (λ s. subst (λ z. IsAmong x (z ∷ filter f xs)) s (here (filter f xs))) (λ n. there y (filter_among x xs n is)) (among_cons h)
    | false ↦ λ e. ⊎_elim (λ s. let c = sym is ∙ (ap f s ∙ e) in absurd (bool_not c)) (λ n. filter_among x xs n is) (among_cons h)
  ]) refl

module _ {A : Type 0} where
  pub among_append : (x : A) (xs ys : List A) → IsAmong x (xs ++ ys) → IsAmong x xs ⊎ IsAmong x ys
  among_append x [] ys h = inr h
  among_append x (y ∷ xs) ys h = ⊎_elim (λ e. inl (subst (λ z. IsAmong x (z ∷ xs)) e (here xs))) (λ m. ⊎_elim (λ o. inl (there y o)) (λ o. inr o) (among_append x xs ys m)) (among_cons h)

  pub among_right : (x : A) (xs ys : List A) → IsAmong x ys → IsAmong x (xs ++ ys)
  among_right x [] ys h = h
  among_right x (y ∷ xs) ys h = there y (among_right x xs ys h)

-- where b holds xs, else nothing
pub chosen : {A : Type 0} (b : Bool) (xs : List A) (y : A) → IsAmong y (cond b xs []) → (b ≡ true) × IsAmong y xs
chosen true xs y m = (refl, m)
chosen false xs y m = absurd (among_nil m)

-- the element at i is among the list
pub among_at : {A : Type 0} (xs : List A) (i : ℕ) (d : A) → i < length xs → IsAmong (slice_index_or xs i d) xs
among_at [] i d l = absurd (omega arith)
among_at (x ∷ xs) zero d l = here xs
among_at (x ∷ xs) (suc i) d l = there x (among_at xs i d (omega arith))
