-- How the scripts of three rows end.
use Rattle.std.proofs.Common.{◌≡◌, ℕ, ◌+◌, ◌<◌, ◌≤◌, Bool, List, [], ◌∷◌, ◌++◌, length, inl, inr, refl, sym, ap, ◌∙◌, subst, ⊎_elim, arith, lit≤, reverse}
use Rattle.chunk_core.specs.Lists.{IsAmong}
use Rattle.std.specs.List.{AllByRecursion}
use Rattle.chunk_core.specs.Lists.IsAmong.{here, there}
use Rattle.chunk_core.proofs.Members.{among_cons, among_nil}
use Rattle.res_ledger.specs.declared.event.Event.{Event}
use Rattle.res_ledger.specs.declared.event.StreamNo.{StreamNo}
use Rattle.res_ledger.specs.declared.event.StreamNo.TheVariants.{Outer}
use Rattle.res_ledger.specs.declared.event.What.{What}
use Rattle.res_ledger.specs.declared.event.What.TheVariants.{Acquire, Cancel, Close, Final, Lease, Open}
use Rattle.res_ledger.specs.Ledger.{IsClosed, Notes, NotesClose, stamped}
use Rattle.res_ledger.specs.Ledger.LiesWithin.{below, same}
use Rattle.res_ledger.specs.Order.{finals, firsts}
use Rattle.res_ledger.specs.Own.{closes, leased_rows, opens, teardown}
use Rattle.row_seat.specs.declared.view.View.{View}
use Rattle.scope_tree.specs.declared.branch.Spent.{Spent}
use Rattle.scope_tree.specs.Calls.{ClosesScope, IsClosedScope, OpensScope, Seen, WasOpened}
use Rattle.scope_tree.specs.Leased.{pairs_for}
use Rattle.scope_tree.specs.Rows.{Once, unleased}
use Rattle.tree_scripts.specs.Scripts.{IsReopened, IsRootLeased, IsThree}
use Rattle.scope_tree.specs.Released.{said}
use Rattle.tree_scripts.specs.Waiting.{IsAlone, LeasesAndCloses, CancelsAndFinishes, noted_by}
use Rattle.scope_tree.specs.Walks.{FirstOpen}
use Rattle.scope_tree.specs.Walks.FirstOpen.{above_it, this_one}
use Rattle.scope_tree.specs.Trace.{open_scopes, owed, trace}
use Rattle.scope_tree.proofs.Bridge.{in_noted, in_opens, noted_in, opens_in, within_cases}
use Rattle.tree_scripts.proofs.Chain.{one_of, two_of}
use Rattle.scope_tree.proofs.Once.{once_pay}
use Rattle.tree_scripts.proofs.ThreeRows.{three_alone}
use Rattle.tree_scripts.proofs.Alone.{alone_more}
use Rattle.scope_tree.proofs.Use.{closed_by, closed_said, first_is, leased_said, opened_said}
use Rattle.scope_tree.proofs.Ending.{close_unleased}
use Rattle.tree_scripts.proofs.Waits.{close_alone}
use Rattle.chunk_core.specs.declared.code.Exit.{Exit}
use Rattle.chunk_core.specs.declared.code.Exit.TheVariants.{Errored, Canceled}
use Rattle.res_ledger.proofs.Noted.{closes_notes, notes_closes}
use Rattle.scope_tree.proofs.Owning.{owner_count, owner_pays}
use Rattle.scope_tree.proofs.Releasing.{released_spare}
use Rattle.tree_scripts.proofs.Outcomes.{owner_leaves}

abbrev before : List What
before = Acquire 0 0 ∷ Open 1 0 ∷ Acquire 1 1 ∷ Open 2 1 ∷ Acquire 2 2 ∷ []

-- a closed scope's first open scope is its parent's
first_above : {L : List Event} {k : StreamNo} {c q : ℕ} → IsClosed L k c → FirstOpen L k c q → (p : ℕ) × Notes L k (Open c p) × FirstOpen L k p q
first_above x (this_one c n) = absurd (n x)
first_above x (above_it c p q y o f) = (p, o, f)

abbrev closed_two : Bool → Bool → List What
closed_two x y = before ++ Close 1 Errored ∷ Final 2 Errored x ∷ Final 1 Errored y ∷ []

no_root : ¬ (IsAmong {A = ℕ} 0 (1 ∷ []))
no_root m = ⊎_elim (λ e. absurd (let z : 0 ≡ 1 = e in omega (z, arith))) (λ n. among_nil n) (among_cons m)

no_root_opened : (p : ℕ) (os : List (ℕ × ℕ)) → AllByRecursion (λ (o : ℕ × ℕ). 1 ≤ o.0) os → ¬ (IsAmong (0, p) os)
no_root_opened p [] h m = among_nil m
no_root_opened p (o ∷ os) h m = ⊎_elim (λ e. let z : 0 ≡ o.0 = ap (λ y. y.0) e in let l = h.0 in absurd (omega (z, l, arith))) (λ n. no_root_opened p os h.1 n) (among_cons m)

parent_of : (c p : ℕ) → IsAmong {A = ℕ × ℕ} (c, p) ((1, 0) ∷ (2, 1) ∷ []) → c ≡ p + 1
parent_of c p m = ⊎_elim
    (λ e. let x : c ≡ 1 = ap (λ y. y.0) e in let z : p ≡ 0 = ap (λ y. y.1) e in omega (x, z, arith))
    (λ n. ⊎_elim (λ e. let x : c ≡ 2 = ap (λ y. y.0) e in let z : p ≡ 1 = ap (λ y. y.1) e in omega (x, z, arith)) (λ k. absurd (among_nil k)) (among_cons n))
    (among_cons m)

module _ {P : Type 0} where
  three_trace : {a : Seen P} {p q r : P} → IsThree a p q r → trace a.seat ≡ before
  three_trace t = ap (λ (x : Seen P). trace x.seat) t.6

  three_opened : {a : Seen P} {p q r : P} → IsThree a p q r → a.seat.opened ≡ (0, p) ∷ (1, q) ∷ (2, r) ∷ []
  three_opened t = ap (λ (x : Seen P). x.seat.opened) t.6

  pub root_leased : {ends : P → Exit → Bool → P → Type 0} {a b : Seen P} {p q r : P} {T : List ℕ} {L : List Event} {shelf : List (Spent P)} → IsThree a p q r → Once a.seat.opened → LeasesAndCloses ends a 0 5 T Errored b → CancelsAndFinishes ends b 5 T Canceled L shelf → IsRootLeased ends p q r L shelf
  root_leased {ends = ends} {a = a} {b = b} {p = p} {q = q} {r = r} {T = T} t once lc s =
      let o = lc.1 in let c = lc.2 in let xs = c.torn.0 in
      let T_is : T ≡ 0 ∷ 1 ∷ [] = o.covered ∙ ap (λ E. leased_rows E 0) (three_trace t) in
      let wm : trace lc.0.seat ≡ before ++ Lease 5 0 ∷ [] = leased_said o ∙ ap (λ E. E ++ Lease 5 0 ∷ []) (three_trace t) in
      let out : lc.0.seat.out ≡ [] = ap (λ v. v.out) o.seat ∙ ap (λ (x : Seen P). x.seat.out) t.6 in
      let pairs : lc.0.seat.pairs ≡ (5, 0) ∷ (5, 1) ∷ [] = ap (λ v. v.pairs) o.seat ∙ ap (λ (x : Seen P). x.seat.pairs ++ pairs_for 5 T) t.6 ∙ ap (pairs_for 5) T_is in
      let rows : firsts (said xs) ≡ 2 ∷ [] = close_unleased c out ∙ ap (λ l. unleased l (teardown (trace lc.0.seat) 0)) pairs ∙ ap (λ E. unleased ((5, 0) ∷ (5, 1) ∷ []) (teardown E 0)) wm in
      let x = one_of xs 2 rows in let y = two_of s.last 1 0 (s.rows ∙ ap reverse T_is) in
      let wb : trace b.seat ≡ before ++ Lease 5 0 ∷ Close 0 Errored ∷ Final 2 Errored x.0.ok ∷ [] = closed_said c ∙ ap (λ E. E ++ Close 0 Errored ∷ finals Errored (said xs)) wm ∙ ap (λ l. before ++ Lease 5 0 ∷ Close 0 Errored ∷ finals Errored (said l)) x.1 ∙ ap (λ i. before ++ Lease 5 0 ∷ Close 0 Errored ∷ Final i Errored x.0.ok ∷ []) x.2 in
      let by : b.seat.by ≡ Outer = closed_by c ∙ ap (λ v. v.by) o.seat ∙ ap (λ (x : Seen P). x.seat.by) t.6 in
      let shelf : b.shelf ≡ x.0 ∷ [] = c.torn.1 ∙ ap (λ l. l ++ xs) (o.shelf ∙ ap (λ (x : Seen P). x.shelf) t.6) ∙ x.1 in
      let opened : lc.0.seat.opened ≡ a.seat.opened = ap (λ v. v.opened) o.seat in
      let pay : (i : ℕ) (u v : P) → IsAmong (i, u) lc.0.seat.opened → IsAmong (i, v) ((0, p) ∷ (1, q) ∷ (2, r) ∷ []) → v ≡ u = λ i u v m n. once_pay i v u a.seat.opened once (subst (λ l. IsAmong (i, v) l) (sym (three_opened t)) n) (subst (λ l. IsAmong (i, u) l) opened m) in
      let left : (i : ℕ) (v : P) → IsAmong i (2 ∷ 1 ∷ 0 ∷ []) → IsAmong (i, v) ((0, p) ∷ (1, q) ∷ (2, r) ∷ []) → IsAmong (i, v) b.seat.left = λ i v m n. let z = owner_leaves i c.torn.2 (subst (λ E. IsAmong i (teardown E 0)) (sym wm) m) in subst (λ w. IsAmong (i, w) b.seat.left) (sym (pay i z.0 v z.1 n)) z.2 in
      let settled : (i : ℕ) (v : P) (z : Spent P) → z.row ≡ i → IsAmong z s.last → IsAmong i (2 ∷ 1 ∷ 0 ∷ []) → IsAmong (i, v) ((0, p) ∷ (1, q) ∷ (2, r) ∷ []) → (z.exit ≡ Canceled) × ends v Canceled z.ok z.pay = λ i v z e m n k. let h = s.pays z m in (h.2, subst (λ w. ends w Canceled z.ok z.pay) (sym (h.1 v (subst (λ w. IsAmong (w, v) b.seat.left) (sym e) (left i v n k)))) h.3) in
      let low = owner_pays x.0 c.torn.2 (subst (λ l. IsAmong x.0 l) (sym x.1) (here [])) in
      let mid = settled 1 q y.0 y.3 (subst (λ l. IsAmong y.0 l) (sym y.2) (here (y.1 ∷ []))) (there 2 (here (0 ∷ []))) (there (0, p) (here ((2, r) ∷ []))) in
      let up = settled 0 p y.1 y.4 (subst (λ l. IsAmong y.1 l) (sym y.2) (there y.0 (here []))) (there 2 (there 1 (here []))) (here ((1, q) ∷ (2, r) ∷ [])) in
      record {
        low = x.0;
        middle = y.0;
        upper = y.1;
        rows = (x.2, y.3, y.4);
        exits = (low.2, mid.0, up.0);
        finished = (
          subst (λ w. ends w Errored x.0.ok x.0.pay) (sym (pay 2 low.0 r (subst (λ w. IsAmong (w, low.0) lc.0.seat.opened) x.2 low.1) (there (0, p) (there (1, q) (here []))))) low.3,
          mid.1,
          up.1,
        );
        shelf_is = s.shelf_is ∙ ap (λ l. l ++ s.last) shelf ∙ ap (λ l. x.0 ∷ l) y.2;
        ledger = s.ledger ∙ ap (λ k. stamped 0 (noted_by k (trace b.seat ++ Cancel 5 Canceled ∷ finals Canceled (said s.last)))) by ∙ ap (λ E. stamped 0 (noted_by Outer (E ++ Cancel 5 Canceled ∷ finals Canceled (said s.last)))) wb ∙ ap (λ l. stamped 0 (noted_by Outer (before ++ Lease 5 0 ∷ Close 0 Errored ∷ Final 2 Errored x.0.ok ∷ Cancel 5 Canceled ∷ finals Canceled (said l)))) y.2
            ∙ ap (λ i. stamped 0 (noted_by Outer (before ++ Lease 5 0 ∷ Close 0 Errored ∷ Final 2 Errored x.0.ok ∷ Cancel 5 Canceled ∷ Final i Canceled y.0.ok ∷ Final y.1.row Canceled y.1.ok ∷ []))) y.3 ∙ ap (λ i. stamped 0 (noted_by Outer (before ++ Lease 5 0 ∷ Close 0 Errored ∷ Final 2 Errored x.0.ok ∷ Cancel 5 Canceled ∷ Final 1 Canceled y.0.ok ∷ Final i Canceled y.1.ok ∷ []))) y.4;
      }

  -- the root isn't closed where neither a close nor an opening names it
  root_unclosed : (v : View P) → ¬ (IsAmong 0 (closes (trace v))) → ((p : ℕ) → ¬ (IsAmong {A = ℕ × ℕ} (0, p) (opens (trace v)))) → ¬ (IsClosed v.events v.by 0)
  root_unclosed v c o x = ⊎_elim
      (λ e. c (subst (λ z. IsAmong z (closes (trace v))) (sym e) (notes_closes v.events v.by x.0 x.2)))
      (λ y. o y.0 (opens_in 0 y.0 (trace v) (noted_in v.by (Open 0 y.0) v.events y.1)))
      (within_cases x.1)

  open_alone : {a b : Seen P} {at c : ℕ} → OpensScope a at c b → IsAlone a.seat → IsAlone b.seat
  open_alone {a = a} {c = c} o al = subst IsAlone (sym o.seat) (record { main = al.main; pairs = al.pairs; kept = al.kept; out = al.out; events = alone_more a.seat o.stamp (Open c o.parent) al.events })

  module _ {ends : P → Exit → Bool → P → Type 0} {a m : Seen P} {p q r : P} (t : IsThree a p q r) (c : ClosesScope ends a 1 Errored m) where
    rows_two : firsts (said c.torn.0) ≡ 2 ∷ 1 ∷ []
    rows_two = close_unleased c (ap (λ (x : Seen P). x.seat.out) t.6) ∙ ap (λ l. unleased l (teardown (trace a.seat) 1)) (ap (λ (x : Seen P). x.seat.pairs) t.6) ∙ ap (λ E. unleased [] (teardown E 1)) (three_trace t)

    pub ended_two : (x y : Bool) × (trace m.seat ≡ closed_two x y)
    ended_two =
        let z = two_of c.torn.0 2 1 rows_two in (
          z.0.ok,
          z.1.ok,
          closed_said c ∙ ap (λ E. E ++ Close 1 Errored ∷ finals Errored (said c.torn.0)) (three_trace t) ∙ ap (λ l. before ++ Close 1 Errored ∷ finals Errored (said l)) z.2
              ∙ ap (λ i. before ++ Close 1 Errored ∷ Final i Errored z.0.ok ∷ Final z.1.row Errored z.1.ok ∷ []) z.3 ∙ ap (λ i. before ++ Close 1 Errored ∷ Final 2 Errored z.0.ok ∷ Final i Errored z.1.ok ∷ []) z.4,
        )

    two_closes : closes (trace m.seat) ≡ 1 ∷ []
    two_closes = ap closes ended_two.2

    two_opens : opens (trace m.seat) ≡ (1, 0) ∷ (2, 1) ∷ []
    two_opens = ap opens ended_two.2

    pub two_root : ¬ (IsClosedScope m 0)
    two_root = root_unclosed m.seat (λ i. no_root (subst (λ l. IsAmong 0 l) two_closes i)) (λ z i. no_root_opened z ((1, 0) ∷ (2, 1) ∷ []) (lit≤ tt, (lit≤ tt, tt)) (subst (λ l. IsAmong (0, z) l) two_opens i))

    noted_open : (s z : ℕ) → IsAmong {A = ℕ × ℕ} (s, z) ((1, 0) ∷ (2, 1) ∷ []) → Notes m.seat.events m.seat.by (Open s z)
    noted_open s z i = in_noted m.seat.by (Open s z) m.seat.events (in_opens s z (trace m.seat) (subst (λ l. IsAmong (s, z) l) (sym two_opens) i))

    pub two_opened : WasOpened m 2
    two_opened = inr (1, noted_open 2 1 (there (1, 0) (here [])))

    pub two_room : m.scopes ≡ a.scopes → length (opens (trace m.seat)) + 1 < m.scopes
    two_room e = let s : m.scopes ≡ 4 = e ∙ ap (λ (x : Seen P). x.scopes) t.6 in let o : length (opens (trace m.seat)) ≡ 2 = ap length two_opens in omega (s, o, arith)

    pub two_free : owed m.seat + 2 ≤ m.seat.spare
    two_free =
        let o : open_scopes (trace m.seat) ≡ 1 = ap open_scopes ended_two.2 in
        let T : length (teardown (trace a.seat) 1) ≡ 2 = ap (λ E. length (teardown E 1)) (three_trace t) in
        let n : length a.seat.opened ≡ 3 = ap length (three_opened t) in
        let d = owner_count c.torn.2 in let s = released_spare c.torn.2 in
        let z : a.seat.spare ≡ 11 = ap (λ (x : Seen P). x.seat.spare) t.6 in
        let l : length c.torn.0 ≡ 2 = ap length (two_of c.torn.0 2 1 rows_two).2 in
        omega (o, T, n, d, s, z, l, arith)

    noted_close : NotesClose m.seat.events m.seat.by 1
    noted_close = closes_notes m.seat.events m.seat.by 1 (subst (λ l. IsAmong 1 l) (sym two_closes) (here []))

    closed_one : IsClosed m.seat.events m.seat.by 1
    closed_one = (1, same 1, noted_close)

    parent_in : (s z : ℕ) → Notes m.seat.events m.seat.by (Open s z) → s ≡ z + 1
    parent_in s z n = parent_of s z (subst (λ l. IsAmong (s, z) l) two_opens (opens_in s z (trace m.seat) (noted_in m.seat.by (Open s z) m.seat.events n)))

    module _ {b : Seen P} {s : ℕ} (o : OpensScope m 2 s b) where
      pub three_number : s ≡ 3
      three_number = o.number ∙ ap (λ l. length l + 1) two_opens

      three_parent : o.parent ≡ 0
      three_parent =
          let x = first_above (1, below 2 1 1 (noted_open 2 1 (there (1, 0) (here []))) (same 1), noted_close) o.nearest in
          let e : x.0 ≡ 1 = let h = parent_in 2 x.0 x.1 in omega (h, arith) in
          let y = first_above closed_one (subst (λ i. FirstOpen m.seat.events m.seat.by i o.parent) e x.2) in
          let f : y.0 ≡ 0 = let h = parent_in 1 y.0 y.1 in omega (h, arith) in
          first_is two_root (subst (λ i. FirstOpen m.seat.events m.seat.by i o.parent) f y.2)

      pub reopened : IsReopened b
      reopened =
          let w : trace b.seat ≡ closed_two ended_two.0 ended_two.1 ++ Open 3 0 ∷ [] = opened_said o ∙ ap (λ E. E ++ Open s o.parent ∷ []) ended_two.2 ∙ ap (λ i. closed_two ended_two.0 ended_two.1 ++ Open i o.parent ∷ []) three_number ∙ ap (λ i. closed_two ended_two.0 ended_two.1 ++ Open 3 i ∷ []) three_parent in
          record {
            low = ended_two.0;
            middle = ended_two.1;
            trace_is = w;
            root = (inl refl, root_unclosed b.seat (λ i. no_root (subst (λ l. IsAmong 0 l) (ap closes w) i)) (λ z i. no_root_opened z ((1, 0) ∷ (2, 1) ∷ (3, 0) ∷ []) (lit≤ tt, (lit≤ tt, (lit≤ tt, tt))) (subst (λ l. IsAmong (0, z) l) (ap opens w) i)));
            alone = open_alone o (close_alone c (three_alone t));
          }
