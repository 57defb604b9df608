-- Events in the order of their stamps are the ledger.
use Rattle.std.proofs.Common.{◌≡◌, ℕ, suc, ◌+◌, ◌<◌, ◌≤◌, ◌↔◌, List, [], ◌∷◌, Bool, cond, eqb, length, refl, sym, subst, ⊎_elim, arith, slice_index_or, eq-eqb, sum_by}
use Rattle.std.specs.List.Sorted.{IsNonDecreasingBy, IsPermutation}
use Rattle.std.proofs.lemmas.List.Recursion.{is_sum_by}
use Rattle.std.proofs.lemmas.List.Sorted.{All-permutation, IsPermutation-sym, sum_by-IsPermutation}
use Rattle.std.proofs.lemmas.Bool.{cases_eq}
use Rattle.chunk_core.specs.Lists.{IsAmong}
use Rattle.chunk_core.specs.Lists.IsAmong.{here, there}
use Rattle.chunk_core.proofs.Filters.{among_at}
use Rattle.res_ledger.specs.declared.event.Event.{Event}
use Rattle.res_ledger.specs.Rising.{Rises}
use Rattle.res_ledger.proofs.Orders.{rising_is}
use Rattle.row_seat.specs.Totals.{stamp_times}
use Rattle.row_seat.proofs.Times.{stamp_some}
use Rattle.row_shared.specs.Orders.{HasAllOf}

among_index : {A : Type 0} (e : A) (xs : List A) → IsAmong e xs → (k : ℕ) × (k < length xs) × ((d : A) → slice_index_or xs k d ≡ e)
among_index e xs (here ys) = (0, omega arith, λ d. refl)
among_index e xs (there {xs = ys} y m) = let t = among_index e ys m in let l = t.1 in (suc t.0, omega arith, t.2)

moved : {A : Type 0} (xs ys : List A) → IsPermutation xs ys → (e : A) → IsAmong e ys → IsAmong e xs
moved xs ys p e m = let t = among_index e ys m in subst (λ z. IsAmong z xs) (t.2 e) (All-permutation (λ x. IsAmong x xs) xs ys p (λ k d l. among_at xs k d l) t.0 e t.1)

times_sum : (n : ℕ) (xs : List Event) → stamp_times n xs ≡ sum_by (λ (e : Event). cond (eqb e.stamp n) 1 0) xs
times_sum n xs = is_sum_by (stamp_times n) (λ (e : Event). cond (eqb e.stamp n) 1 0) refl (λ _ _. refl) xs

one_here : (n : ℕ) → (let m : ℕ = cond (eqb n n) 1 0 in m ≡ 1)
one_here n = subst (λ (b : Bool). let m : ℕ = cond b 1 0 in m ≡ 1) (sym (eq-eqb n n refl)) refl

-- stamps that don't fall, each of which comes once, rise
rises : (ys : List Event) → IsNonDecreasingBy (λ (e : Event). e.stamp) ys → ((n : ℕ) → stamp_times n ys ≤ 1) → Rises ys
rises [] h once = tt
rises (y ∷ ys) h once = (
  λ x m. let t = among_index x ys m in let l = t.1 in
      let le : y.stamp ≤ x.stamp = subst (λ (z : Event). y.stamp ≤ z.stamp) (t.2 y) (h 0 (suc t.0) y (omega arith) (omega arith)) in
      ⊎_elim
      (λ e. let a : cond (eqb y.stamp y.stamp) 1 0 + stamp_times y.stamp ys ≤ 1 = once y.stamp in let b = one_here y.stamp in
      let s : 1 ≤ stamp_times y.stamp ys = subst (λ n. 1 ≤ stamp_times n ys) e (stamp_some x ys m) in absurd (omega arith))
      (λ ne. omega arith)
      (cases_eq x.stamp y.stamp),
  rises ys (λ i j d a b. h (suc i) (suc j) d (omega arith) (omega arith)) (λ n. let a : cond (eqb y.stamp n) 1 0 + stamp_times n ys ≤ 1 = once n in omega arith),
)

pub ordered_is : (xs ys log : List Event) → HasAllOf xs log → IsPermutation xs ys → IsNonDecreasingBy (λ (e : Event). e.stamp) ys → ys ≡ log
ordered_is xs ys log o p h =
    let back = moved xs ys p in let forth = moved ys xs (IsPermutation-sym xs ys p) in
    let both : (e : Event) → IsAmong e log ↔ IsAmong e ys = λ e. ((λ m. forth e ((o.whole e).0 m)), (λ m. (o.whole e).1 (back e m))) in
    let once : (n : ℕ) → stamp_times n ys ≤ 1 = λ n. let c = o.once n in let a = times_sum n xs in let b = times_sum n ys in let s = sum_by-IsPermutation (λ (e : Event). cond (eqb e.stamp n) 1 0) xs ys p in omega arith in
    sym (rising_is log ys o.stamped (rises ys h once) both)
