-- Which rows a main tree ends.
use Rattle.std.proofs.Common.{◌≡◌, ℕ, ◌⊎◌, Bool, true, false, not, nat_eq, ◌&&◌, List, [], ◌∷◌, ◌++◌, inl, inr, refl, sym, ap, ◌∙◌, subst, ⊎_elim}
use Rattle.chunk_core.specs.declared.code.Exit.{Exit}
use Rattle.chunk_core.specs.declared.code.Exit.TheVariants.{Succeeded}
use Rattle.chunk_core.specs.Lists.{IsAmong, has}
use Rattle.chunk_core.specs.Lists.IsAmong.{here, there}
use Rattle.chunk_core.proofs.Filters.{among_append, chosen}
use Rattle.chunk_core.proofs.Members.{among_cons, among_last, among_left, among_nil}
use Rattle.chunk_core.proofs.Reversed.{among_reverse}
use Rattle.res_ledger.specs.declared.event.What.{What}
use Rattle.res_ledger.specs.declared.event.What.TheVariants.{Acquire, Cancel, Close, Final, Lease, Open}
use Rattle.res_ledger.specs.Ledger.{Notes}
use Rattle.res_ledger.proofs.Ledgers.{final_row}
use Rattle.res_ledger.specs.Order.{finals, firsts}
use Rattle.res_ledger.specs.Own.{closes, latest, opens, own, rows, rows_beneath, teardown}
use Rattle.scope_tree.specs.Calls.{AtStart, Seen}
use Rattle.scope_tree.specs.Released.{said}
use Rattle.scope_tree.specs.Trace.{trace}
use Rattle.scope_tree.proofs.Bridge.{in_noted, in_rows, noted_in}
use Rattle.scope_tree.proofs.Distinct.{picks_among}
use Rattle.scope_tree.proofs.Follows.{is_end}
use Rattle.scope_tree.proofs.Owed.{number_among}
use Rattle.scope_tree.proofs.Parting.{join_trace}
use Rattle.scope_tree.proofs.Releasing.{released_picks}
use Rattle.scope_tree.proofs.Use.{acquired_said, canceled_said, closed_picks, closed_said, leased_said, opened_said}
use Rattle.tree_laws.specs.Called.{Called}
use Rattle.tree_laws.specs.Called.Called.{none, opened, acquired, written, leased, cancelled, closed, split, taken_in}
use Rattle.tree_laws.specs.Lent.{Lent}
use Rattle.tree_laws.proofs.Kept.{lent_own}

latest_row : (r s : ℕ) (xs : List (ℕ × ℕ)) → IsAmong r (latest xs s) → (t : ℕ) × IsAmong (r, t) xs
latest_row r s [] m = absurd (among_nil m)
latest_row r s (x ∷ xs) m = ⊎_elim
    (λ i. let t = latest_row r s xs i in (t.0, there x t.1))
    (λ i. ⊎_elim (λ e. (x.1, subst (λ z. IsAmong (z, x.1) (x ∷ xs)) (sym e) (here xs))) (λ o. absurd (among_nil o)) (among_cons (chosen (nat_eq x.1 s) (x.0 ∷ []) r i).1))
    (among_append r (latest xs s) _ m)

beneath_row : (r : ℕ) (os : List (ℕ × ℕ)) (shut : ℕ → Bool) (xs : List (ℕ × ℕ)) (s : ℕ) → IsAmong r (rows_beneath os shut xs s) → (t : ℕ) × IsAmong (r, t) xs
beneath_row r [] shut xs s m = absurd (among_nil m)
beneath_row r (o ∷ os) shut xs s m = ⊎_elim
    (λ i. beneath_row r os shut xs s i)
    (λ i. ⊎_elim (λ k. beneath_row r os shut xs o.0 k) (λ k. latest_row r o.0 xs k) (among_append r (rows_beneath os shut xs o.0) (latest xs o.0) (chosen (nat_eq o.1 s && not (shut o.0)) _ r i).1))
    (among_append r (rows_beneath os shut xs s) _ m)

-- what a Close takes down was acquired
teardown_row : (r s : ℕ) (E : List What) → IsAmong r (teardown E s) → (t : ℕ) × IsAmong (Acquire r t) E
teardown_row r s E m =
    let t = ⊎_elim (λ i. beneath_row r (opens E) (λ c. has c (closes E)) (rows E) s i) (λ i. latest_row r s (rows E) i) (among_append r (rows_beneath (opens E) (λ c. has c (closes E)) (rows E) s) (latest (rows E) s) m) in
    (t.0, in_rows r t.0 E t.1)

final_first : (r : ℕ) (x y : Exit) (ok : Bool) (fs : List (ℕ × Bool)) → IsAmong (Final r x ok) (finals y fs) → IsAmong r (firsts fs)
final_first r x y ok [] m = absurd (among_nil m)
final_first r x y ok (f ∷ fs) m = ⊎_elim
    (λ e. subst (λ z. IsAmong z (f.0 ∷ firsts fs)) (sym (final_row r f.0 x y ok f.1 e)) (here (firsts fs)))
    (λ i. there f.0 (final_first r x y ok fs i))
    (among_cons m)

-- each row that ended was acquired, or is one of a lease that was cancelled
abbrev EndsOwn : List What → List (ℕ × List ℕ) → Type 0
EndsOwn E Cs = (r : ℕ) (x : Exit) (ok : Bool) → IsAmong (Final r x ok) E → ((s : ℕ) × IsAmong (Acquire r s) E) ⊎ ((j : ℕ) × (T : List ℕ) × IsAmong (j, T) Cs × IsAmong r T)

-- with one event more, and a run of Finals
own_run : (E F : List What) (Cs Ds : List (ℕ × List ℕ)) (w : What) (y : Exit) (fs : List (ℕ × Bool)) → F ≡ E ++ w ∷ finals y fs → is_end w ≡ false → ((c : ℕ × List ℕ) → IsAmong c Cs → IsAmong c Ds) → ((r : ℕ) → IsAmong r (firsts fs) → ((s : ℕ) × IsAmong (Acquire r s) E) ⊎ ((j : ℕ) × (T : List ℕ) × IsAmong (j, T) Ds × IsAmong r T)) → EndsOwn E Cs → EndsOwn F Ds
own_run E F Cs Ds w y fs is plain more ends h r x ok m =
    let up : ((s : ℕ) × IsAmong (Acquire r s) E) → (s : ℕ) × IsAmong (Acquire r s) F = λ t. (t.0, subst (λ l. IsAmong (Acquire r t.0) l) (sym is) (among_left (w ∷ finals y fs) t.1)) in
    ⊎_elim
    (λ i. ⊎_elim (λ t. inl (up t)) (λ t. inr (t.0, t.1, more (t.0, t.1) t.2, t.3)) (h r x ok i))
    (λ i. ⊎_elim
    (λ e. let z : true ≡ false = ap is_end e ∙ plain in cc)
    (λ k. ⊎_elim (λ t. inl (up t)) (λ t. inr t) (ends r (final_first r x y ok fs k)))
    (among_cons i))
    (among_append (Final r x ok) E (w ∷ finals y fs) (subst (λ l. IsAmong (Final r x ok) l) is m))

module _ {P : Type 0} {ends : P → Exit → Bool → P → Type 0} where
  own_along : {a b : Seen P} {Cs : List (ℕ × List ℕ)} → EndsOwn (trace a.seat) [] → Called ends a Cs b → EndsOwn (trace b.seat) Cs
  own_along e none = e
  own_along e (opened {Cs = Cs} b c at s h m o) = own_run (trace b.seat) (trace c.seat) Cs Cs (Open s o.parent) Succeeded [] (opened_said o) refl (λ i k. k) (λ r k. absurd (among_nil k)) (own_along e h)
  own_along e (acquired {Cs = Cs} b c s r p h m o) = own_run (trace b.seat) (trace c.seat) Cs Cs (Acquire r s) Succeeded [] (acquired_said o) refl (λ i k. k) (λ q k. absurd (among_nil k)) (own_along e h)
  own_along e (written {Cs = Cs} b c r p h m o) = subst (λ (x : Seen P). EndsOwn (trace x.seat) Cs) (sym o) (own_along e h)
  own_along e (leased {Cs = Cs} b c s j T h m o) = own_run (trace b.seat) (trace c.seat) Cs Cs (Lease j s) Succeeded [] (leased_said o) refl (λ i k. k) (λ r k. absurd (among_nil k)) (own_along e h)
  own_along e (cancelled {Cs = Cs} b c j T x h m o) = own_run (trace b.seat) (trace c.seat) Cs (Cs ++ (j, T) ∷ []) (Cancel j x) x (said o.left.0) (canceled_said o) refl (λ i k. among_left ((j, T) ∷ []) k) (λ r k. inr (j, T, among_last Cs (j, T), among_reverse r T (picks_among r (released_picks o.left.2) k))) (own_along e h)
  own_along e (closed {Cs = Cs} b c s x h m o) = own_run (trace b.seat) (trace c.seat) Cs Cs (Close s x) x (said o.torn.0) (closed_said o) refl (λ i k. k) (λ r k. inl (teardown_row r s (trace b.seat) (picks_among r (closed_picks o) k))) (own_along e h)
  own_along e (split {Cs = Cs} b c j from to n h m o) = subst (λ (x : Seen P). EndsOwn (trace x.seat) Cs) (sym o) (own_along e h)
  own_along e (taken_in {Cs = Cs} b c w h m p o) = subst (λ E. EndsOwn E Cs) (sym (ap (λ (x : Seen P). trace x.seat) o ∙ join_trace b.seat w p)) (own_along e h)

  -- a tree that cancelled only leases that it made ends only rows that it acquired
  pub ended_own : {a b : Seen P} {Cs : List (ℕ × List ℕ)} → AtStart a.seat → Called ends a Cs b → ((j : ℕ) (T : List ℕ) → IsAmong (j, T) Cs → Lent b.seat j T) → (r : ℕ) (x : Exit) (ok : Bool) → Notes b.seat.events b.seat.by (Final r x ok) → (s : ℕ) × Notes b.seat.events b.seat.by (Acquire r s)
  ended_own {a = a} {b = b} start calls lent r x ok n =
      let first : EndsOwn (trace a.seat) [] = subst (λ L. EndsOwn (own a.seat.by L) []) (sym start.events) (λ q y k m. absurd (among_nil m)) in
      let t = ⊎_elim
      (λ t. t)
      (λ t. let q = number_among r (rows (trace b.seat)) (lent_own b.seat t.0 t.1 (lent t.0 t.1 t.2) r t.3) in (q.0, in_rows r q.0 (trace b.seat) q.1))
      (own_along first calls r x ok (noted_in b.seat.by (Final r x ok) b.seat.events n)) in
      (t.0, in_noted b.seat.by (Acquire r t.0) b.seat.events t.1)
