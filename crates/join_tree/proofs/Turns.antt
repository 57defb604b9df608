-- Which streams stood when the outer stream leased and when it closed its root.
use Rattle.std.proofs.Common.{◌≡◌, ◌≢◌, ℕ, suc, ◌+◌, ◌<◌, ◌⊎◌, ◌↔◌, Bool, true, false, nat_eq, if◌then◌else◌, List, length, [], ◌∷◌, ◌++◌, map, Some, None, inl, inr, sym, ap, ◌∙◌, subst, ⊎_elim, arith}
use Rattle.std.specs.Prelude.{not}
use Rattle.std.proofs.lemmas.Bool.{cases_eq}
use Rattle.chunk_core.specs.declared.code.Exit.{Exit}
use Rattle.chunk_core.specs.declared.code.Exit.TheVariants.{Canceled}
use Rattle.chunk_core.specs.Lists.{IsAmong}
use Rattle.chunk_core.specs.Lists.IsAmong.{here, there}
use Rattle.chunk_core.proofs.Bools.{not_so, number, tested}
use Rattle.chunk_core.proofs.Filters.{among_append, among_right}
use Rattle.chunk_core.proofs.Members.{among_left, among_mid, among_snoc}
use Rattle.res_ledger.specs.declared.event.Event.{Event}
use Rattle.res_ledger.specs.declared.event.StreamNo.{StreamNo}
use Rattle.res_ledger.specs.declared.event.StreamNo.TheVariants.{Inner, Outer}
use Rattle.res_ledger.specs.declared.event.What.{What}
use Rattle.res_ledger.specs.declared.event.What.TheVariants.{Acquire, Cancel, Close, Final, Lease, Open}
use Rattle.res_ledger.specs.Ledger.{IsLeased, IsStamped, Notes}
use Rattle.res_ledger.specs.Whole.{is_cancel}
use Rattle.res_ledger.proofs.Ledgers.{inner_is, lease_stream}
use Rattle.row_seat.specs.declared.view.View.{View}
use Rattle.run_rules.specs.Ends.{HadTurn, WasIn}
use Rattle.run_rules.specs.Facts.{has_event, leased_stream, root_exit}
use Rattle.scope_tree.specs.Calls.{ClosesScope, Leases, Seen}
use Rattle.scope_tree.specs.Trace.{closing as closing_event, leasing as leasing_event}
use Rattle.scope_tree.proofs.Follows.{is_end}
use Rattle.scope_tree.proofs.Use.{close_follows}
use Rattle.tree_families.specs.Families.{Split}
use Rattle.tree_families.specs.Pace.{NotesBelow}
use Rattle.tree_families.proofs.Noting.{follows_cases}
use Rattle.tree_families.proofs.Pacing.{before, uncancelled}
use Rattle.join_tree.specs.Mains.{IsMain}
use Rattle.join_tree.specs.Notes.{IsTold}
use Rattle.join_tree.specs.Progress.{Progress, standing}
use Rattle.join_tree.specs.Turns.{EndedBehind, KeepsOuts, LeftBut, StoodIn, TookTurn}
use Rattle.join_tree.proofs.Giving.{below_more, lease_below, stands_or_gone}
use Rattle.join_tree.proofs.Telling.{some_is}

-- among more events the same had left
left_more : {is : List ℕ} {L M : List Event} {n j : ℕ} → ((e : Event) → IsAmong e L → IsAmong e M) → LeftBut is L n j → LeftBut is M n j
left_more more l i less = ⊎_elim (λ o. inl o) (λ c. inr (c.0, c.1, below_more {k = c.0} {w = Cancel i c.1} more c.2)) (l i less)

module _ {P : Type 0} {out : List ℕ} {ahead : List (ℕ × List ℕ)} {last : List ℕ} {leased : ℕ} where
  -- nothing was noted, and no seat is out
  pub outs_none : (v : View P) → ((j : ℕ) → IsAmong j v.out → ⊥) → ((e : Event) → IsAmong e v.events → ⊥) → KeepsOuts out ahead last leased v
  outs_none v none nothing = record { out_is = λ j m. absurd (none j m); leases = λ e j s m w. absurd (nothing e m); closes = λ e x m k w. absurd (nothing e m) }

  -- neither a Lease nor a Close of the root is new, and no seat went out
  pub outs_calm : (v w : View P) → KeepsOuts out ahead last leased v → ((j : ℕ) → IsAmong j w.out → IsAmong j v.out) → ((e : Event) → IsAmong e v.events → IsAmong e w.events)
      → ((e : Event) (j s : ℕ) → IsAmong e w.events → e.what ≡ Lease j s → IsAmong e v.events) → ((e : Event) (x : Exit) → IsAmong e w.events → e.by ≡ Outer → e.what ≡ Close 0 x → IsAmong e v.events) → KeepsOuts out ahead last leased w
  outs_calm v w h fewer more leases closes = record {
    out_is = λ j m. h.out_is j (fewer j m);
    leases = λ e j s m q. let a = h.leases e j s (leases e j s m q) q in (a.0, a.1, left_more more a.2);
    closes = λ e x m k q. left_more more (h.closes e x (closes e x m k q) k q);
  }

  -- more may be told to be out
  pub outs_told : (v : View P) (more : List ℕ) → KeepsOuts out ahead last leased v → ((j : ℕ) → IsAmong j v.out → IsAmong j more) → KeepsOuts more ahead last leased v
  outs_told v more h told = record { out_is = told; leases = h.leases; closes = h.closes }

-- with the same events, and a seat more that is out
pub outs_splits : {P : Type 0} {out : List ℕ} {ahead : List (ℕ × List ℕ)} {last : List ℕ} {leased : ℕ} (v w : View P) (j : ℕ) → KeepsOuts out ahead last leased v → w.out ≡ v.out ++ j ∷ [] → w.events ≡ v.events → KeepsOuts (j ∷ out) ahead last leased w
outs_splits {out = out} {last = last} {leased = leased} v w j h more events = record {
  out_is = λ i m. ⊎_elim
      (λ o. there j (h.out_is i o))
      (λ e. subst (λ z. IsAmong z (j ∷ out)) (sym e) (here out))
      (among_snoc v.out i j (subst (λ l. IsAmong i l) more m));
  leases = λ e k s m q. let a = h.leases e k s (subst (λ l. IsAmong e l) events m) q in (a.0, a.1, subst (λ L. LeftBut a.0 L e.stamp k) (sym events) a.2);
  closes = λ e x m k q. subst (λ L. LeftBut last L e.stamp leased) (sym events) (h.closes e x (subst (λ l. IsAmong e l) events m) k q);
}

module _ {P : Type 0} {ends : P → Exit → Bool → P → Type 0} {width n : ℕ} (b : Seen P) (p : Progress P) (h : IsMain ends width n b p) where
  -- each stream below `leased` stands, or its lease has a Cancel
  stand_or_gone : (i : ℕ) → i < p.leased → IsAmong i (standing p) ⊎ ((k : StreamNo) × (x : Exit) × Notes b.seat.events k (Cancel i x))
  stand_or_gone i l = ⊎_elim
      (λ o. inl (⊎_elim (λ a. among_left (map (λ w. w.0) p.waits) (h.outs.out_is i a)) (λ a. among_right i p.out (map (λ w. w.0) p.waits) a) (among_append i b.seat.out (map (λ w. w.0) p.waits) o)))
      (λ c. inr c)
      (stands_or_gone b p h i l)

  module _ (none : p.root ≡ None) where
    -- the root is open, so that it has no Close
    unclosed : (e : Event) (x : Exit) → IsAmong e b.seat.events → e.by ≡ Outer → e.what ≡ Close 0 x → ⊥
    unclosed e x m k w = let z : None ≡ Some x = sym none ∙ h.told.outer (Close 0 x) (e, m, k, w) in cc

    -- those that hadn't left stood at a stamp that is above all
    left_now : (c : Seen P) (stamp : ℕ) → ((e : Event) → IsAmong e b.seat.events → IsAmong e c.seat.events) → ((e : Event) → IsAmong e b.seat.events → e.stamp < stamp) → LeftBut (standing p) c.seat.events stamp p.leased
    left_now c stamp more fresh i l = ⊎_elim (λ o. inl o) (λ y. let q = y.2 in inr (y.0, y.1, (q.0, more q.0 q.1, q.2, q.3, fresh q.0 q.1))) (stand_or_gone i l)

    -- a scope was leased for the next stream
    module _ (c : Seen P) (s : ℕ) (T : List ℕ) (o : Leases b s p.leased T c) where
      abbrev lease_event : Event
      lease_event = leasing_event b.seat p.leased s o.stamp

      leased_events : c.seat.events ≡ b.seat.events ++ lease_event ∷ []
      leased_events = ap (λ u. u.events) o.seat

      leased_more : (e : Event) → IsAmong e b.seat.events → IsAmong e c.seat.events
      leased_more e m = subst (λ l. IsAmong e l) (sym leased_events) (among_left (lease_event ∷ []) m)

      leased_old : (e : Event) → IsAmong e c.seat.events → IsAmong e b.seat.events ⊎ (e ≡ lease_event)
      leased_old e m = among_snoc b.seat.events e lease_event (subst (λ l. IsAmong e l) leased_events m)

      -- the new one is told
      lease_told : (e : Event) (j t : ℕ) → e ≡ lease_event → e.what ≡ Lease j t → (is : List ℕ) × IsAmong {A = ℕ × List ℕ} (j, is) ((p.leased, standing p) ∷ p.ahead) × LeftBut is c.seat.events e.stamp j
      lease_told e j t a w =
          let z : j ≡ p.leased = (lease_stream j p.leased t s (sym w ∙ ap (λ (y : Event). y.what) a)).0 in
          let stamp : o.stamp ≡ e.stamp = sym (ap (λ (y : Event). y.stamp) a) in
          let left : LeftBut (standing p) c.seat.events e.stamp p.leased = subst (λ u. LeftBut (standing p) c.seat.events u p.leased) stamp (left_now c o.stamp leased_more o.fresh.1) in
          (standing p, subst (λ (k : ℕ). IsAmong {A = ℕ × List ℕ} (k, standing p) ((p.leased, standing p) ∷ p.ahead)) (sym z) (here p.ahead), subst (λ k. LeftBut (standing p) c.seat.events e.stamp k) (sym z) left)

      pub outs_leases : KeepsOuts p.out ((p.leased, standing p) ∷ p.ahead) p.last (suc p.leased) c.seat
      outs_leases = record {
        out_is = λ j m. h.outs.out_is j (subst (λ l. IsAmong j l) (ap (λ u. u.out) o.seat) m);
        leases = λ e j t m w. ⊎_elim
            (λ a. let q = h.outs.leases e j t a w in (q.0, there (p.leased, standing p) q.1, left_more leased_more q.2))
            (λ a. lease_told e j t a w)
            (leased_old e m);
        closes = λ e x m k w. ⊎_elim
            (λ a. absurd (unclosed e x a k w))
            (λ a. let z : Close 0 x ≡ Lease p.leased s = sym w ∙ ap (λ (y : Event). y.what) a in cc)
            (leased_old e m);
      }

    -- the root was closed
    module _ (c : Seen P) (x : Exit) (o : ClosesScope ends b 0 x c) (more : (e : Event) → IsAmong e b.seat.events → IsAmong e c.seat.events) where
      pub outs_closes : KeepsOuts p.out p.ahead (standing p) p.leased c.seat
      outs_closes =
          let f = close_follows o in
          let y : Event = closing_event b.seat 0 x o.stamp in
          let old = follows_cases b.seat c.seat y f in
          record {
            out_is = λ j m. h.outs.out_is j (subst (λ l. IsAmong j l) (ap (λ z. z.out) f.same) m);
            leases = λ e j t m w. ⊎_elim
                (λ a. let q = h.outs.leases e j t a w in (q.0, q.1, left_more more q.2))
                (λ a. absurd (⊎_elim
                (λ q. let z : Lease j t ≡ Close 0 x = sym w ∙ ap (λ (v : Event). v.what) q in cc)
                (λ q. let z : false ≡ true = ap is_end (sym w) ∙ q.1 in cc)
                a))
                (old e m);
            closes = λ e z m k w. ⊎_elim
                (λ a. absurd (unclosed e z a k w))
                (λ a. ⊎_elim
                (λ q. subst (λ u. LeftBut (standing p) c.seat.events u p.leased) (sym (ap (λ (v : Event). v.stamp) q)) (left_now c o.stamp more o.fresh.1))
                (λ q. absurd (let r : false ≡ true = ap is_end (sym w) ∙ q.1 in cc))
                a)
                (old e m);
          }

-- a child scope isn't the root
pub not_root : (s : ℕ) (x y : Exit) → Close 0 x ≡ Close (suc s) y → ⊥
not_root s x y e = let n : 0 ≡ suc s = cc in omega (n, arith)

-- What the finished ledger tells.

some_number : (i j : ℕ) → Some i ≡ Some j → i ≡ j
some_number i j e = cc

-- what leases for j is a Lease for j
lease_shape : (w : What) (j : ℕ) → leased_stream w ≡ Some j → (s : ℕ) × (w ≡ Lease j s)
lease_shape (Lease i s) j h = (s, ap (λ k. Lease k s) (some_number i j h))
lease_shape (Open s q) j h = absurd (let z : None ≡ Some j = h in cc)
lease_shape (Acquire r s) j h = absurd (let z : None ≡ Some j = h in cc)
lease_shape (Cancel i x) j h = absurd (let z : None ≡ Some j = h in cc)
lease_shape (Close s x) j h = absurd (let z : None ≡ Some j = h in cc)
lease_shape (Final r x ok) j h = absurd (let z : None ≡ Some j = h in cc)

-- what closes the root is a Close of it
close_shape : (w : What) (x : Exit) → root_exit w ≡ Some x → w ≡ Close 0 x
close_shape (Close s y) x h = ⊎_elim
    (λ t. let e : Some y ≡ Some x = subst (λ b. (if b then Some y else None) ≡ Some x) t h in ap (λ n. Close n y) (number s 0 t) ∙ ap (λ z. Close 0 z) (some_is y x e))
    (λ t. absurd (let e : None ≡ Some x = subst (λ b. (if b then Some y else None) ≡ Some x) (not_so (nat_eq s 0) t) h in cc))
    (tested (nat_eq s 0))
close_shape (Open s q) x h = absurd (let z : None ≡ Some x = h in cc)
close_shape (Acquire r s) x h = absurd (let z : None ≡ Some x = h in cc)
close_shape (Lease j s) x h = absurd (let z : None ≡ Some x = h in cc)
close_shape (Cancel j y) x h = absurd (let z : None ≡ Some x = h in cc)
close_shape (Final r y ok) x h = absurd (let z : None ≡ Some x = h in cc)

module _ {P : Type 0} (p : Progress P) (L : List Event) (told : IsTold p L) where
  -- the last that was leased for
  last_leased : (k : ℕ) → IsLeased L k → ¬ (IsLeased L (k + 1)) → p.leased ≡ suc k
  last_leased k l none =
      let n = l.2 in
      let low : k < p.leased = lease_below told n.0 k l.1 n.1 n.3 in
      ⊎_elim
      (λ e. e)
      (λ ne. absurd (none (let x = told.leases (k + 1) (omega (low, ne, arith)) in (Outer, x.0, x.1))))
      (cases_eq p.leased (suc k))

  ended_behind : (k : ℕ) (e : Event) (x : Exit) → IsAmong e L → e.by ≡ Outer → root_exit e.what ≡ Some x → x ≢ Canceled → IsLeased L k → ¬ (IsLeased L (k + 1)) → EndedBehind p k
  ended_behind k e x m by is ne l none = (last_leased k l none, (x, told.outer (Close 0 x) (e, m, by, close_shape e.what x is), ne))

  begun_turn : (k : ℕ) (e : Event) → IsAmong e L → e.by ≡ Inner k → (m : Split) × IsAmong m p.splits × (m.stream ≡ k)
  begun_turn k e m by = ⊎_elim
      (λ o. let z : Outer ≡ Inner k = sym o ∙ by in cc)
      (λ y. let t = told.back y.0 y.1 in let q = inner_is t.0 k (sym t.1 ∙ (sym y.2 ∙ by)) in (t.2.0, t.2.1, t.2.2 ∙ q))
      (told.whose e m)

  pub turns_taken : (k : ℕ) → HadTurn L k → TookTurn p k
  turns_taken k h = ⊎_elim
      (λ by. inl (begun_turn k h.0 h.1 by))
      (λ t. ⊎_elim
      (λ l. let w = lease_shape h.0.what (k + 1) l in let low = lease_below told h.0 (k + 1) w.0 h.1 w.1 in inr (inl (omega (low, arith))))
      (λ q. inr (inr (ended_behind k h.0 q.1.0 h.1 q.0 q.1.1 q.1.2 q.2 q.3)))
      t)
      h.2

  module _ (v : View P) (stamped : IsStamped L) (same : (e : Event) → IsAmong e L ↔ IsAmong e v.events) (outs : KeepsOuts p.out p.ahead p.last p.leased v) where
    -- what hadn't a Cancel before e has none below its stamp
    still : (R S : List Event) (e : Event) (i : ℕ) → L ≡ R ++ e ∷ S → has_event (is_cancel i) R ≡ false → ((q : StreamNo) × (x : Exit) × NotesBelow e.stamp v.events q (Cancel i x)) → ⊥
    still R S e i is none c =
        let n = c.2 in
        let low : n.0.stamp < length R = subst (λ u. n.0.stamp < u) (stamped R S e is) n.4 in
        uncancelled R i c.0 (ap not none) (c.1, (n.0, before L R S e n.0 stamped is ((same n.0).1 n.1) low, n.2, n.3))

    pub stood_in : ((R S : List Event) (e : Event) (k i : ℕ) → L ≡ R ++ e ∷ S → e.by ≡ Inner k → i < k → has_event (is_cancel i) R ≡ false → (m : Split) × IsAmong m p.splits × (m.stream ≡ k) × IsAmong i m.out) → (k i : ℕ) → i < k → WasIn L k i → StoodIn p k i
    stood_in room k i less w =
        let R = w.0 in
        let S = w.1 in
        let e = w.2 in
        let m : IsAmong e L = subst (λ l. IsAmong e l) (sym w.3) (among_mid R S e) in
        let at : IsAmong e v.events = (same e).0 m in
        ⊎_elim
        (λ by. inl (room R S e k i w.3 by less w.5))
        (λ t. ⊎_elim
        (λ l.
        let f = lease_shape e.what (k + 1) l in
        let q = outs.leases e (k + 1) f.0 at f.1 in
        let next : k + 1 ≡ suc k = omega arith in
        ⊎_elim
        (λ o. inr (inl (q.0, subst (λ (n : ℕ). IsAmong {A = ℕ × List ℕ} (n, q.0) p.ahead) next q.1, o)))
        (λ c. absurd (still R S e i w.3 w.5 c))
        (q.2 i (omega (less, arith))))
        (λ q.
        let b = ended_behind k e q.1.0 m q.0 q.1.1 q.1.2 q.2 q.3 in
        let count = b.0 in
        ⊎_elim
        (λ o. inr (inr (b, o)))
        (λ c. absurd (still R S e i w.3 w.5 c))
        (outs.closes e q.1.0 at q.0 (close_shape e.what q.1.0 q.1.1) i (omega (less, count, arith))))
        t)
        w.4
