-- Leases for a stream, row by row.
use Rattle.std.proofs.Common.{◌≡◌, ◌≢◌, ℕ, ◌<◌, ◌≤◌, zero, suc, true, take, List, [], ◌∷◌, ◌++◌, length, slice_index_or, refl, sym, ap, ◌∙◌, subst, ⊎_elim, arith, append_assoc, append-nil, nat_eq}
use Rattle.chunk_core.specs.Lists.{IsAmong}
use Rattle.chunk_core.specs.Lists.IsAmong.{here, there}
use Rattle.chunk_core.proofs.Filters.{among_append, among_at}
use Rattle.chunk_core.proofs.Members.{among_nil, among_cons}
use Rattle.res_ledger.specs.Ledger.{IsLeased}
use Rattle.res_ledger.specs.declared.event.StreamNo.TheVariants.{Inner}
use Rattle.row_seat.specs.declared.view.View.{View}
use Rattle.row_seat.specs.Views.{CanLease, HasRow, leased}
use Rattle.std.specs.List.{IsDistinct}
use Rattle.scope_tree.specs.Leased.{leased_all, pairs_for}
use Rattle.chunk_core.proofs.Distinct.{distinct_head, distinct_tail}

pub take_next : {A : Type 0} (xs : List A) (i k : ℕ) (d : A) → k ≡ suc i → i < length xs → take k xs ≡ take i xs ++ slice_index_or xs i d ∷ []
take_next [] i k d e l = absurd (omega arith)
take_next (x ∷ xs) zero k d e l = ap (λ n. take n (x ∷ xs)) e
take_next (x ∷ xs) (suc i) k d e l = ap (λ n. take n (x ∷ xs)) e ∙ ap (λ l. x ∷ l) (take_next xs i (suc i) d refl (omega arith))

pub take_all : {A : Type 0} (xs : List A) (n : ℕ) → length xs ≤ n → take n xs ≡ xs
take_all [] zero l = refl
take_all [] (suc n) l = refl
take_all (x ∷ xs) zero l = absurd (omega arith)
take_all (x ∷ xs) (suc n) l = ap (λ y. x ∷ y) (take_all xs n (omega arith))

-- a row of a list of distinct rows doesn't stand before itself
pub not_before : (xs : List ℕ) (i d : ℕ) → IsDistinct nat_eq xs → i < length xs → ¬ (IsAmong (slice_index_or xs i d) (take i xs))
not_before [] i d u l m = absurd (omega arith)
not_before (x ∷ xs) zero d u l m = among_nil m
not_before (x ∷ xs) (suc i) d u l m = ⊎_elim (λ e. distinct_head x xs u (subst (λ z. IsAmong z xs) e (among_at xs i d (omega arith)))) (λ n. not_before xs i d (distinct_tail x xs u) (omega arith) n) (among_cons m)

pub pairs_append : (j : ℕ) (T U : List ℕ) → pairs_for j (T ++ U) ≡ pairs_for j T ++ pairs_for j U
pairs_append j [] U = refl
pairs_append j (r ∷ T) U = ap (λ l. let y : ℕ × ℕ = (j, r) in y ∷ l) (pairs_append j T U)

pub pairs_among : (j i r : ℕ) (T : List ℕ) → IsAmong (i, r) (pairs_for j T) → (i ≡ j) × IsAmong r T
pairs_among j i r [] m = absurd (among_nil m)
pairs_among j i r (q ∷ T) m = ⊎_elim (λ e. (ap (λ y. y.0) e, subst (λ z. IsAmong z (q ∷ T)) (sym (ap (λ y. y.1) e)) (here T))) (λ n. let t = pairs_among j i r T n in (t.0, there q t.1)) (among_cons m)

pub among_pairs : (j r : ℕ) (T : List ℕ) → IsAmong r T → IsAmong (j, r) (pairs_for j T)
among_pairs j r [] m = absurd (among_nil m)
among_pairs j r (q ∷ T) m = ⊎_elim (λ e. subst (λ z. IsAmong (j, r) ((j, z) ∷ pairs_for j T)) e (here (pairs_for j T))) (λ n. let y : ℕ × ℕ = (j, q) in there y (among_pairs j r T n)) (among_cons m)

module _ {P : Type 0} (v : View P) (j : ℕ) where
  pub leased_none : leased_all v j [] ≡ v
  leased_none = ap (λ ps. let w : View P = record v { pairs = ps } in w) (append-nil v.pairs)

  pub leased_next : (T : List ℕ) (r : ℕ) → leased (leased_all v j T) j r ≡ leased_all v j (T ++ r ∷ [])
  leased_next T r = ap (λ ps. let w : View P = record v { pairs = ps } in w) (append_assoc v.pairs (pairs_for j T) ((j, r) ∷ []) ∙ ap (λ l. v.pairs ++ l) (sym (pairs_append j T (r ∷ []))))

  -- the row at i may be leased once those before it are
  pub can_lease : (xs : List ℕ) (i d : ℕ) → i < length xs → v.main ≡ true → ((r : ℕ) → IsAmong r xs → HasRow v.opened r) → IsDistinct nat_eq xs → (v.by ≢ Inner j) × ¬ (IsAmong j v.had) × ¬ (IsLeased v.events j) → ((r : ℕ) → ¬ (IsAmong (j, r) v.pairs)) → CanLease (leased_all v j (take i xs)) j (slice_index_or xs i d)
  can_lease xs i d l main rows u stream none = (
    main,
    rows (slice_index_or xs i d) (among_at xs i d l),
    (λ m. ⊎_elim (λ o. none (slice_index_or xs i d) o) (λ o. not_before xs i d u l (pairs_among j j (slice_index_or xs i d) (take i xs) o).1) (among_append (j, slice_index_or xs i d) v.pairs (pairs_for j (take i xs)) m)),
    stream.0,
    stream.1,
    stream.2,
  )
