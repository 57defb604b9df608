-- The rows of a ledger, and the devices that they had.
use Rattle.std.proofs.Common.{◌≡◌, ℕ, ◌+◌, ◌<◌, Bool, true, false, cond, ◌||◌, nat_eq, nat_lt, List, [], ◌∷◌, map, length, count_by, Option, Some, None, refl, sym, ◌∙◌, ap, subst, ⊎_elim, arith}
use Rattle.std.proofs.lemmas.Bool.{eqb-false, false≢true, false_from_ne_true, lt-ltb, ltb-true, ne_eqb}
use Rattle.std.proofs.lemmas.List.Sums.{sum_by-cons}
use Rattle.std.specs.List.{AllByRecursion, IsDistinct}
use Rattle.std.specs.List.Sorted.{IsPermutation}
use Rattle.chunk_core.specs.Lists.{IsAmong}
use Rattle.chunk_core.specs.Lists.IsAmong.{here, there}
use Rattle.chunk_core.specs.declared.code.Exit.{Exit}
use Rattle.chunk_core.proofs.Members.{among_left}
use Rattle.chunk_core.proofs.Bools.{number}
use Rattle.chunk_core.proofs.Each.{each_among}
use Rattle.res_ledger.specs.declared.event.StreamNo.{StreamNo}
use Rattle.res_ledger.specs.declared.event.What.{What}
use Rattle.res_ledger.specs.declared.event.What.TheVariants.{Acquire, Final}
use Rattle.res_ledger.specs.declared.event.Event.{Event}
use Rattle.res_ledger.specs.Ledger.{IsAcquired, IsLegal, MayFollow, Notes}
use Rattle.res_ledger.specs.Order.{same_exit}
use Rattle.res_ledger.specs.Whole.{IsComplete, is_final}
use Rattle.res_ledger.proofs.Noted.{is_final_shape}
use Rattle.res_ledger.proofs.Prefixes.{split_at}
use Rattle.res_ledger.proofs.Tests.{exit_is, exit_same}
use Rattle.device_port.specs.Device.{Place, DeviceTold}
use Rattle.run_rules.specs.Facts.{acquired_row, ended_row, failed_row, is_failed, has_event}
use Rattle.run_rules.specs.Devices.{AreAsMany, IsRowBelow, is_closed_with, place_of_row}
use Rattle.run_rules.specs.Homes.{IsTied}
use Rattle.joined_runs.specs.Devices.{IsAtRest}
use Rattle.joined_runs.proofs.Counting.{as_many_of, filter_map_from, filter_map_of, named_once, rows_named}

some_is : {A : Type 0} (x y : A) → Some x ≡ Some y → x ≡ y
some_is x y e = cc

-- Which event names a row.

acquires : (r : ℕ) (v : What) → acquired_row v ≡ Some r → (s : ℕ) × (v ≡ Acquire r s)
acquires r (Acquire q s) h = (s, ap (λ k. Acquire k s) (some_is q r h))
acquires r v h = cc

fails : (r : ℕ) (v : What) → failed_row v ≡ Some r → (x : Exit) × (v ≡ Final r x false)
fails r (Final q x false) h = (x, ap (λ k. Final k x false) (some_is q r h))
fails r v h = cc

ends_with : (x : Exit) (r : ℕ) (v : What) → ended_row x v ≡ Some r → (ok : Bool) × (v ≡ Final r x ok)
ends_with x r (Final q y ok) h = (elim (same_exit x y) as (λ b. same_exit x y ≡ b → cond b (Some q) None ≡ Some r → (a : Bool) × (Final q y ok ≡ Final r x a)) [
  | true ↦ λ e k. (ok, ap (λ z. Final q z ok) (sym (exit_is x y e)) ∙ ap (λ z. Final z x ok) (some_is q r k))
  | false ↦ λ e k. cc
]) refl h
ends_with x r v h = cc

failed_final : (v : What) → is_failed v ≡ true → (r : ℕ) × (x : Exit) × (v ≡ Final r x false)
failed_final (Final r x false) t = (r, x, refl)
failed_final v t = absurd (false≢true t)

told_exit : (x : Exit) (o : Option Exit) → (elim o [ Some y ↦ same_exit x y | None ↦ false ]) ≡ true → o ≡ Some x
told_exit x (Some y) t = ap (λ z. Some z) (sym (exit_is x y t))
told_exit x None t = absurd (false≢true t)

-- an element that passes, where some do
passing : {A : Type 0} (p : A → Bool) (xs : List A) → 0 < count_by p xs → (x : A) × IsAmong x xs × (p x ≡ true)
passing p [] l = absurd (omega arith)
passing p (x ∷ xs) l = (elim (p x) as (λ b. p x ≡ b → 0 < cond b 1 0 + count_by p xs → (y : _) × IsAmong y (x ∷ xs) × (p y ≡ true)) [
  | true ↦ λ e k. (x, here xs, e)
  | false ↦ λ e k. let y = passing p xs (omega (arith, k)) in (y.0, there x y.1, y.2)
]) refl (let c = sum_by-cons (λ y. cond (p y) 1 0) x xs in omega (arith, c, l))

module _ (L : List Event) (legal : IsLegal L) where
  -- in a legal ledger no row is acquired twice, and none ends twice
  acquired_once : IsDistinct nat_eq (rows_named acquired_row L)
  acquired_once = named_once acquired_row L (λ P Q e r is n m.
      let a = acquires r e.what n in
      let f = filter_map_from (λ (x : Event). acquired_row x.what) r P m in
      let b = acquires r f.0.what f.2 in
      let may : MayFollow P e.by (Acquire r a.0) = subst (λ v. MayFollow P e.by v) a.1 (legal P Q e is) in
      may.0 (f.0.by, b.0, (f.0, f.1, refl, b.1)))

  ended_once : (row : What → Option ℕ) → ((r : ℕ) (v : What) → row v ≡ Some r → (x : Exit) × (ok : Bool) × (v ≡ Final r x ok)) → IsDistinct nat_eq (rows_named row L)
  ended_once row final = named_once row L (λ P Q e r is n m.
      let a = final r e.what n in
      let f = filter_map_from (λ (x : Event). row x.what) r P m in
      let b = final r f.0.what f.2 in
      let may : MayFollow P e.by (Final r a.0 a.1) = subst (λ v. MayFollow P e.by v) a.2 (legal P Q e is) in
      may.0.2 (f.0.by, b.1, (b.0, (f.0, f.1, refl, b.2))))

-- a legal and complete ledger acquired the rows whose devices were opened, and ended them as those were closed
pub record AreRowsKept (count : ℕ) (w : ℕ → DeviceTold) (L : List Event) : Type 0 where
  pub legal : IsLegal L
  pub complete : IsComplete L
  pub acquired : (k : StreamNo) (r s : ℕ) → Notes L k (Acquire r s) → (r < count) × ((w r).opens ≡ 1)
  pub each : (r : ℕ) → r < count → (w r).opens ≡ 1 → IsAcquired L r
  pub ended : (k : StreamNo) (r : ℕ) (x : Exit) (ok : Bool) → Notes L k (Final r x ok) → ((w r).exit ≡ Some x) × (ok ≡ nat_eq (w r).close_faults 0)

module _ (count : ℕ) (w : ℕ → DeviceTold) (L : List Event) (a : AreRowsKept count w L) where
  -- a row that has a Final was acquired
  ended_opened : (r : ℕ) (x : Exit) (ok : Bool) (e : Event) → IsAmong e L → e.what ≡ Final r x ok → (r < count) × ((w r).opens ≡ 1)
  ended_opened r x ok e i v =
      let parts = split_at e L i in
      let closed = a.complete.after_close parts.0 parts.1 e r x ok parts.2 v in
      let n : Notes parts.0 closed.0 (Acquire r closed.1) = closed.2 in
      a.acquired closed.0 r closed.1 (n.0, subst (λ l. IsAmong n.0 l) (sym parts.2) (among_left (e ∷ parts.1) n.1), n.2, n.3)

  -- a row that was acquired has a Final
  final_of : (r : ℕ) → r < count → (w r).opens ≡ 1 → (k : StreamNo) × (x : Exit) × (ok : Bool) × Notes L k (Final r x ok)
  final_of r l o =
      let n = a.each r l o in
      let once = a.complete.finalized_once n.0 r n.1 n.2 in
      let e = passing (λ (e : Event). is_final r e.what) L (omega (arith, once)) in
      let f = is_final_shape r e.0.what e.2 in
      (e.0.by, f.0, f.1, (e.0, e.1, refl, f.2))

  tied_what : (v : What) → ((r s : ℕ) → v ≡ Acquire r s → (w r).opens ≡ 1) → ((r : ℕ) (x : Exit) (ok : Bool) → v ≡ Final r x ok → ((w r).exit ≡ Some x) × (ok ≡ nat_eq (w r).close_faults 0)) → IsTied w v
  tied_what (Acquire r s) p q = p r s refl
  tied_what (Final r x ok) p q = q r x ok refl
  tied_what v p q = tt

  pub tied : AllByRecursion (λ e. IsTied w e.what) L
  tied = each_among (λ (e : Event). IsTied w e.what) L (λ e i. tied_what e.what (λ r s v. (a.acquired e.by r s (e, i, refl, v)).1) (λ r x ok v. a.ended e.by r x ok (e, i, refl, v)))

  row_below : (v : What) → ((r s : ℕ) → v ≡ Acquire r s → r < count) → IsRowBelow count (acquired_row v)
  row_below (Acquire r s) p = p r s refl
  row_below v p = tt

  pub rows_below : AllByRecursion (λ e. IsRowBelow count (acquired_row e.what)) L
  rows_below = each_among (λ (e : Event). IsRowBelow count (acquired_row e.what)) L (λ e i. row_below e.what (λ r s v. (a.acquired e.by r s (e, i, refl, v)).0))

  -- where each device was closed well, so says each Final
  pub clean : ((r : ℕ) → r < count → (w r).close_faults ≡ 0) → has_event is_failed L ≡ false
  clean well = none_fails L (λ e i t.
      let f = failed_final e.what t in
      let bad = (a.ended e.by f.0 f.1 false (e, i, refl, f.2)).1 in
      false≢true (bad ∙ ap (λ n. nat_eq n 0) (well f.0 (ended_opened f.0 f.1 false e i f.2).0)))
    where
      none_fails : (M : List Event) → ((e : Event) → IsAmong e M → is_failed e.what ≡ true → ⊥) → has_event is_failed M ≡ false
      none_fails [] h = refl
      none_fails (e ∷ M) h = ap (λ b. b || has_event is_failed M) (false_from_ne_true (is_failed e.what) (h e (here M))) ∙ none_fails M (λ x i. h x (there e i))

-- the devices of these rows came back, and no other was opened
module _ (places : List Place) (w : ℕ → DeviceTold) (L : List Event) (a : AreRowsKept (length places) w L) (rs : List ℕ) (distinct : IsDistinct nat_eq rs) (inside : (r : ℕ) → IsAmong r rs → r < length places)
    (rest : (r : ℕ) → IsAmong r rs → IsAtRest (w r)) (opened_in : (r : ℕ) → r < length places → (w r).opens ≡ 1 → IsAmong r rs)
    (placed : (r : ℕ) → r < length places → place_of_row places (Some r) ≡ (w r).place ∷ []) (back : List DeviceTold) (each : IsPermutation (map w rs) back) where
  -- the rows acquired are those whose devices were opened
  pub acquired_devices : AreAsMany (λ d. nat_eq d.opens 1) acquired_row back places L
  acquired_devices = as_many_of places w placed (λ (d : DeviceTold). nat_eq d.opens 1) acquired_row rs back L each distinct (acquired_once L a.legal)
      (λ r m.
      let f = filter_map_from (λ (e : Event). acquired_row e.what) r L m in
      let s = acquires r f.0.what f.2 in
      let o = a.acquired f.0.by r s.0 (f.0, f.1, refl, s.1) in (opened_in r o.0 o.1, o.0, ap (λ n. nat_eq n 1) o.1))
      (λ r l t. let n = a.each r (inside r l) (number (w r).opens 1 t) in filter_map_of (λ (e : Event). acquired_row e.what) r n.2.0 L n.2.1 (ap acquired_row n.2.3))

  -- a row whose device isn't one that was never opened has a Final with the device's exit and answer
  final_opened : (r : ℕ) → IsAmong r rs → (((w r).opens ≡ 0) × ((w r).closes ≡ 0) × ((w r).close_faults ≡ 0) × ((w r).exit ≡ None) → ⊥)
      → (k : StreamNo) × (x : Exit) × (ok : Bool) × Notes L k (Final r x ok) × ((w r).exit ≡ Some x) × (ok ≡ nat_eq (w r).close_faults 0)
  final_opened r i not_idle =
      ⊎_elim (λ s. absurd (not_idle s)) (λ s. let n = final_of (length places) w L a r (inside r i) s.0 in let e = a.ended n.0 r n.1 n.2 n.3 in (n.0, n.1, n.2, n.3, e.0, e.1)) (rest r i).stage

  -- the rows whose Final isn't ok are those whose devices couldn't be closed well
  pub failed_devices : AreAsMany (λ d. nat_lt 0 d.close_faults) failed_row back places L
  failed_devices = as_many_of places w placed (λ (d : DeviceTold). nat_lt 0 d.close_faults) failed_row rs back L each distinct
      (ended_once L a.legal failed_row (λ r v h. let f = fails r v h in (f.0, false, f.1)))
      (λ r m.
      let f = filter_map_from (λ (e : Event). failed_row e.what) r L m in
      let v = fails r f.0.what f.2 in
      let bad = (a.ended f.0.by r v.0 false (f.0, f.1, refl, v.1)).1 in
      let o = ended_opened (length places) w L a r v.0 false f.0 f.1 v.1 in
      (opened_in r o.0 o.1, o.0, let faults = eqb-false (w r).close_faults 0 (sym bad) in lt-ltb 0 (w r).close_faults (omega (arith, faults))))
      (λ r i t.
      let some = ltb-true 0 (w r).close_faults t in
      let n = final_opened r i (λ s. let z = s.2 in absurd (omega (arith, z, some))) in
      filter_map_of (λ (e : Event). failed_row e.what) r n.3.0 L n.3.1 (ap failed_row n.3.3 ∙ ap (λ ok. cond ok None (Some r)) (n.5 ∙ ne_eqb (w r).close_faults 0 (λ e. omega (arith, e, some)))))

  -- the rows whose Final has an exit are those whose devices were closed with it
  pub ended_devices : (x : Exit) → AreAsMany (is_closed_with x) (ended_row x) back places L
  ended_devices x = as_many_of places w placed (is_closed_with x) (ended_row x) rs back L each distinct
      (ended_once L a.legal (ended_row x) (λ r v h. let f = ends_with x r v h in (x, f.0, f.1)))
      (λ r m.
      let f = filter_map_from (λ (e : Event). ended_row x e.what) r L m in
      let v = ends_with x r f.0.what f.2 in
      let told = (a.ended f.0.by r x v.0 (f.0, f.1, refl, v.1)).0 in
      let o = ended_opened (length places) w L a r x v.0 f.0 f.1 v.1 in
      (opened_in r o.0 o.1, o.0, ap (λ (o : Option Exit). elim o [ Some y ↦ same_exit x y | None ↦ false ]) told ∙ exit_same x))
      (λ r i t.
      let told = told_exit x (w r).exit t in
      let n = final_opened r i (λ s. none_told (sym s.3 ∙ told)) in
      let same : n.1 ≡ x = some_is n.1 x (sym n.4 ∙ told) in
      filter_map_of (λ (e : Event). ended_row x e.what) r n.3.0 L n.3.1 (ap (λ v. ended_row x v) n.3.3 ∙ ap (λ y. cond (same_exit x y) (Some r) None) same ∙ ap (λ b. cond b (Some r) None) (exit_same x)))
    where
      none_told : None ≡ Some x → ⊥
      none_told e = cc
