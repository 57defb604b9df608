-- What a host and its guest stand at, call by call.
use Rattle.std.proofs.Common.{◌≡◌, ◌≢◌, ℕ, ◌+◌, ◌-◌, ◌≤◌, Bool, List, [], ◌∷◌, ◌++◌, length, inl, refl, sym, ap, ◌∙◌, subst, ⊎_elim, arith, lit≤}
use Rattle.chunk_core.specs.Lists.{IsAmong}
use Rattle.chunk_core.specs.Lists.IsAmong.{here, there}
use Rattle.chunk_core.proofs.Members.{among_cons, among_left, among_nil}
use Rattle.res_ledger.specs.declared.event.Event.{Event}
use Rattle.res_ledger.specs.declared.event.StreamNo.TheVariants.{Inner, Outer}
use Rattle.res_ledger.specs.declared.event.What.TheVariants.{Acquire, Cancel, Close, Final}
use Rattle.res_ledger.specs.Ledger.{IsAcquired, IsClosed, IsFinalized, IsLeased}
use Rattle.res_ledger.specs.Order.{finals, firsts}
use Rattle.res_ledger.specs.Own.{closes, leased_of, leased_rows, rows, teardown}
use Rattle.res_ledger.proofs.Growth.{noted_new}
use Rattle.row_seat.specs.declared.view.View.{View}
use Rattle.row_seat.specs.Views.{AtRest, CanFinish, CanJoin, CanSplit, IsWithin, MayNote, joined, name_of, noted, placed, split_main, start, without}
use Rattle.scope_tree.specs.declared.branch.Spent.{Spent}
use Rattle.scope_tree.specs.Calls.{AcquiresRow, Cancels, ClosesScope, IsOpenScope, Leases, Seen, used}
use Rattle.tree_scripts.specs.Guests.{HasVisited, IsGuest, IsHost}
use Rattle.scope_tree.specs.Leased.{leased_all}
use Rattle.scope_tree.specs.Rows.{strangers, unleased}
use Rattle.scope_tree.specs.Released.{away, said}
use Rattle.scope_tree.specs.Trace.{acquiring, closing, leasing, numbers, open_scopes, owed, own_rows, trace}
use Rattle.scope_tree.proofs.Bridge.{in_noted, noted_in, rows_in}
use Rattle.scope_tree.proofs.Use.{acquire_more, all_open, cancel_follows, canceled_said, close_follows, close_pairs, closed_said, start_said}
use Rattle.tree_scripts.proofs.Chain.{one_of}
use Rattle.tree_scripts.proofs.ThreeRows.{no_lease}
use Rattle.chunk_core.proofs.Each.{among_each}
use Rattle.scope_tree.proofs.Ending.{close_unleased}
use Rattle.chunk_core.specs.declared.code.Exit.{Exit}
use Rattle.chunk_core.specs.declared.code.Exit.TheVariants.{Succeeded, Errored}
use Rattle.res_ledger.specs.Ledger.LiesWithin.{same}
use Rattle.scope_tree.proofs.Follows.{follows_mine, same_by, same_main}
use Rattle.scope_tree.proofs.Lessee.{lease_pairs_none}
use Rattle.scope_tree.proofs.Lists.{away_le}
use Rattle.scope_tree.proofs.Owning.{owner_count}
use Rattle.scope_tree.proofs.Releasing.{released_spare}

within_one : (r : ℕ) → IsWithin 1 2 r → r ≡ 1
within_one r w = let a = w.0 in let b = w.1 in omega (a, b, arith)

pub outer_inner : Outer ≡ Inner 5 → ⊥
outer_inner e = cc

-- the host: the main seat with the row 0, acquired in the root
module _ {P : Type 0} where
  abbrev host_row : ℕ → P → ℕ → View P
  host_row splits p n = let v : View P = start Outer 2 16 splits in placed (noted v (acquiring v 0 0 n)) 0 p

  abbrev host_lease : ℕ → P → ℕ → ℕ → View P
  host_lease splits p n k = noted (leased_all (host_row splits p n) 5 (0 ∷ [])) (leasing (host_row splits p n) 5 0 k)

  pub host_acquired : {splits : ℕ} {a b : Seen P} {p : P} → a.seat ≡ start Outer 2 16 splits → (o : AcquiresRow a 0 0 p b) → b.seat ≡ host_row splits p o.stamp
  host_acquired {splits = splits} {p = p} e o = o.seat ∙ ap (λ v. placed (noted v (acquiring v 0 0 o.stamp)) 0 p) e

  pub host_covers : {splits : ℕ} {v : View P} {p : P} {n : ℕ} → v ≡ host_row splits p n → leased_rows (trace v) 0 ≡ 0 ∷ []
  host_covers e = ap (λ v. leased_rows (trace v) 0) e

  pub host_leased : {splits : ℕ} {a b : Seen P} {p : P} {n : ℕ} {T : List ℕ} → a.seat ≡ host_row splits p n → (o : Leases a 0 5 T b) → b.seat ≡ host_lease splits p n o.stamp
  host_leased {a = a} {T = T} e o = o.seat ∙ ap (λ U. noted (leased_all a.seat 5 U) (leasing a.seat 5 0 o.stamp)) (o.covered ∙ host_covers e) ∙ ap (λ v. noted (leased_all v 5 (0 ∷ [])) (leasing v 5 0 o.stamp)) e

  pub host_unleased : {splits : ℕ} {v : View P} {p : P} {n : ℕ} → v ≡ host_row splits p n → (v.by ≢ Inner 5) × ¬ (IsAmong 5 v.had) × ¬ (IsLeased v.events 5)
  host_unleased {splits = splits} {p = p} {n = n} e = subst (λ v. (v.by ≢ Inner 5) × ¬ (IsAmong 5 v.had) × ¬ (IsLeased v.events 5)) (sym e) (
    outer_inner,
    among_nil,
    λ x. no_lease 5 x.1 (subst (λ w. leased_of w ≡ []) x.2.3 (among_each (λ (y : Event). leased_of y.what ≡ []) x.2.0 (host_row splits p n).events (refl, tt) x.2.1)),
  )

  pub host_leases : {a b : Seen P} {T : List ℕ} → Leases a 0 5 T b → IsLeased b.seat.events 5
  host_leases {a = a} o = subst (λ v. IsLeased v.events 5) (sym o.seat) (a.seat.by, 0, noted_new a.seat.events (leasing a.seat 5 0 o.stamp))

  pub host_splits : {splits : ℕ} {v : View P} {p : P} {n k : ℕ} → v ≡ host_lease splits p n k → ((r : ℕ) → IsAmong r v.empty → ¬ (IsAcquired v.events r)) → IsLeased v.events 5 → 1 ≤ splits → CanSplit v 5 1 2 5
  host_splits {v = v} e empty leased one = (
    ap (λ x. x.main) e,
    (λ b. outer_inner (sym (ap (λ x. x.by) e) ∙ b)),
    (λ m. among_nil (subst (λ (x : View P). IsAmong 5 x.had) e m)),
    (λ r w. let m : IsAmong r v.empty = subst (λ z. IsAmong z v.empty) (sym (within_one r w)) (subst (λ (x : View P). IsAmong 1 x.empty) (sym e) (here [])) in (m, empty r m)),
    subst (λ (x : View P). 5 ≤ x.spare) (sym e) (lit≤ tt),
    subst (λ (x : View P). 1 ≤ x.splits) (sym e) one,
    λ r m. leased,
  )

  pub host_free : {splits : ℕ} {v : View P} {p : P} {n k : ℕ} → v ≡ host_lease splits p n k → owed v + 5 ≤ v.spare
  host_free e = subst (λ v. owed v + 5 ≤ v.spare) (sym e) (lit≤ tt)

  pub host_open : (a : Seen P) (v : View P) {splits : ℕ} {p : P} {n k : ℕ} → v ≡ host_lease splits p n k → a.seat ≡ split_main v 5 1 2 5 → IsOpenScope a 0
  host_open a v {splits = splits} {p = p} {n = n} {k = k} e s =
      let f : a.seat ≡ split_main (host_lease splits p n k) 5 1 2 5 = s ∙ ap (λ x. split_main x 5 1 2 5) e in all_open a.seat 0 (ap (λ x. closes (trace x)) f) (inl refl)

  pub host_of : {ends : P → Exit → Bool → P → Type 0} {splits : ℕ} {a b : Seen P} {v : View P} {p : P} {n k : ℕ} → v ≡ host_lease splits p n k → a.seat ≡ split_main v 5 1 2 5 → ClosesScope ends a 0 Succeeded b → IsHost b.seat
  host_of {splits = splits} {a = a} {p = p} {n = n} {k = k} e s c =
      let f : a.seat ≡ split_main (host_lease splits p n k) 5 1 2 5 = s ∙ ap (λ x. split_main x 5 1 2 5) e in let g = close_follows c in record {
        main = same_main g ∙ ap (λ x. x.main) f;
        by = same_by g ∙ ap (λ x. x.by) f;
        closed = follows_mine g (noted_new a.seat.events (closing a.seat 0 Succeeded c.stamp));
        pairs = close_pairs c ∙ ap (λ x. x.pairs) f;
        kept = ap (λ z. z.kept) g.same ∙ ap (λ x. x.kept) f;
        out = ap (λ z. z.out) g.same ∙ ap (λ x. x.out) f;
      }

  -- the guest is taken in
  pub host_joins : (v w : View P) → IsHost v → AtRest w → w.by ≡ Inner 5 → CanJoin v w
  host_joins v w h r b = (h.main, (5, b, subst (λ l. IsAmong 5 l) (sym h.out) (here [])), r)

  pub host_closed : (v w : View P) → IsHost v → IsClosed (joined v w).events (joined v w).by 0
  host_closed v w h = (0, same 0, (Succeeded, (h.closed.0, among_left w.events h.closed.1, h.closed.2, h.closed.3)))

  pub host_rests : (v w u : View P) → IsHost v → w.by ≡ Inner 5 → u ≡ joined v w → (u.opened ≡ []) × (u.handed ≡ []) × (u.taken ≡ []) × ((r : ℕ) → IsAmong r u.empty → ¬ (IsAcquired u.events r)) → CanFinish u
  host_rests v w u h b e r = (
    ap (λ x. x.main) e ∙ h.main,
    (r.0, r.3, ap (λ x. x.pairs) e ∙ h.pairs, ap (λ x. x.kept) e ∙ h.kept, r.1, r.2),
    ap (λ x. x.out) e ∙ ap (without (name_of w.by)) h.out ∙ ap (λ k. without (name_of k) (5 ∷ [])) b,
  )

  -- the guest acquired the row 1
  module _ {a b : Seen P} {p : P} (g : IsGuest a.seat) (o : AcquiresRow a 0 1 p b) where
    acquired_trace : trace b.seat ≡ Acquire 1 0 ∷ []
    acquired_trace = acquire_more (start_said a.seat a.seat g.start refl) o

    acquired_pairs : b.seat.pairs ≡ (5, 0) ∷ []
    acquired_pairs = ap (λ v. v.pairs) o.seat ∙ g.pairs

    pub guest_open : IsOpenScope b 0
    guest_open = all_open b.seat 0 (ap closes acquired_trace) (inl refl)

    -- and closed its root
    module _ {ends : P → Exit → Bool → P → Type 0} {x : Exit} {d : Seen P} (c : ClosesScope ends b 0 x d) where
      one_ended : (x : Spent P) × (c.torn.0 ≡ x ∷ []) × (x.row ≡ 1)
      one_ended = one_of c.torn.0 1 (close_unleased c (ap (λ v. v.out) o.seat ∙ g.out) ∙ ap (λ l. unleased l (teardown (trace b.seat) 0)) acquired_pairs ∙ ap (λ E. unleased ((5, 0) ∷ []) (teardown E 0)) acquired_trace)

      pub guest_trace : (ok : Bool) × (trace d.seat ≡ Acquire 1 0 ∷ Close 0 x ∷ Final 1 x ok ∷ [])
      guest_trace = let y = one_ended in (y.0.ok, closed_said c ∙ ap (λ E. E ++ Close 0 x ∷ finals x (said c.torn.0)) acquired_trace ∙ ap (λ l. Acquire 1 0 ∷ Close 0 x ∷ finals x (said l)) y.1 ∙ ap (λ i. Acquire 1 0 ∷ Close 0 x ∷ Final i x y.0.ok ∷ []) y.2)

      pub guest_by : d.seat.by ≡ Inner 5
      guest_by = same_by (close_follows c) ∙ ap (λ v. v.by) o.seat ∙ g.by

      guest_pairs : d.seat.pairs ≡ (5, 0) ∷ []
      guest_pairs = close_pairs c ∙ acquired_pairs

      guest_kept : d.seat.kept ≡ 5 ∷ []
      guest_kept = ap (λ z. z.kept) (close_follows c).same ∙ ap (λ v. v.kept) o.seat ∙ g.kept

      -- so it may cancel its lease
      pub guest_may : MayNote d.seat (Cancel 5 x)
      guest_may = (
        subst (λ l. IsAmong 5 l) (sym guest_kept) (here []),
        λ by r s n.
            let m : IsAmong {A = ℕ × ℕ} (r, s) ((1, 0) ∷ []) = subst (λ l. IsAmong (r, s) l) (ap rows guest_trace.1) (rows_in r s (trace d.seat) (noted_in d.seat.by (Acquire r s) d.seat.events n)) in
            let e : r ≡ 1 = ⊎_elim (λ i. ap (λ y. y.0) i) (λ i. absurd (among_nil i)) (among_cons m) in
            subst (λ i. IsFinalized d.seat.events i) (sym e) (d.seat.by, guest_trace.0, (x, in_noted d.seat.by (Final 1 x guest_trace.0) d.seat.events (subst (λ E. IsAmong (Final 1 x guest_trace.0) E) (sym guest_trace.1) (there (Acquire 1 0) (there (Close 0 x) (here [])))))),
      )

      pub guest_leases : (r : ℕ) → IsAmong r (0 ∷ []) → IsAmong (5, r) d.seat.pairs
      guest_leases r m = ⊎_elim (λ e. subst (λ l. IsAmong (5, r) l) (sym guest_pairs) (subst (λ z. IsAmong {A = ℕ × ℕ} (5, z) ((5, 0) ∷ [])) (sym e) (here []))) (λ i. absurd (among_nil i)) (among_cons m)

      pub guest_room : a.shelf ≡ [] → used d + strangers (own_rows d.seat) (0 ∷ []) ≤ 2
      guest_room e =
          let x = one_ended in
          let shelf : d.shelf ≡ x.0 ∷ [] = c.torn.1 ∙ ap (λ l. l ++ c.torn.0) (o.shelf ∙ e) ∙ x.1 in
          let F : firsts (said d.shelf) ≡ 1 ∷ [] = ap (λ l. firsts (said l)) shelf ∙ ap (λ i. i ∷ []) x.2 in
          let R : rows (trace d.seat) ≡ (1, 0) ∷ [] = ap rows guest_trace.1 in
          let u : used d ≡ 1 = ap (λ l. length l + strangers (numbers l) (firsts (said d.shelf))) R ∙ ap (λ l. 1 + strangers (1 ∷ []) l) F in
          let s : strangers (own_rows d.seat) (0 ∷ []) ≡ 1 = ap (λ l. strangers (numbers l) (0 ∷ [])) R in omega (u, s, arith)

      pub guest_free : owed d.seat + 1 + away (0 ∷ []) d.seat.opened ≤ d.seat.spare
      guest_free =
          let s : open_scopes (trace d.seat) ≡ 0 = ap open_scopes guest_trace.1 in
          let n : length b.seat.opened ≡ 1 = ap (λ v. length v.opened) o.seat ∙ ap (λ l. length (l ++ (1, p) ∷ [])) g.start.opened in
          let T : length (teardown (trace b.seat) 0) ≡ 1 = ap (λ E. length (teardown E 0)) acquired_trace in
          let k = owner_count c.torn.2 in let l = released_spare c.torn.2 in let one : length c.torn.0 ≡ 1 = ap length one_ended.1 in
          let z : b.seat.spare ≡ a.seat.spare - 1 = ap (λ v. v.spare) o.seat in let y = g.spare in
          let w : away (0 ∷ []) d.seat.opened ≤ 1 = away_le (0 ∷ []) d.seat.opened in
          omega (s, n, T, k, l, one, z, y, w, arith)

      pub guest_cancels : {y : Exit} {e : Seen P} {j : ℕ} {T : List ℕ} → j ≡ 5 → T ≡ 0 ∷ [] → Cancels ends d j T y e → Cancels ends d 5 (0 ∷ []) y e
      guest_cancels {y = y} {e = e} {T = T} i s q = subst (λ U. Cancels ends d 5 U y e) s (subst (λ j. Cancels ends d j T y e) i q)

      -- which is what it noted
      pub guest_visited : {e : Seen P} → (let y : Exit = Errored in x ≡ y) → Cancels ends d 5 (0 ∷ []) Errored e → HasVisited e.seat
      guest_visited i q = (guest_trace.0, said q.left.0, canceled_said q ∙ ap (λ E. E ++ Cancel 5 Errored ∷ finals Errored (said q.left.0)) (guest_trace.1 ∙ ap (λ y. Acquire 1 0 ∷ Close 0 y ∷ Final 1 y guest_trace.0 ∷ []) i))

      -- after which nothing of it is left
      pub guest_rests : {y : Exit} {e : Seen P} → Cancels ends d 5 (0 ∷ []) y e → (e.seat.by ≡ Inner 5) × (e.seat.pairs ≡ []) × (e.seat.kept ≡ [])
      guest_rests q =
          let f = cancel_follows q in (
            same_by f ∙ guest_by,
            lease_pairs_none q.left.2 (λ i r m. ⊎_elim (λ s. (ap (λ y. y.0) s, subst (λ z. IsAmong z (0 ∷ [])) (sym (ap (λ y. y.1) s)) (here []))) (λ n. absurd (among_nil n)) (among_cons (subst (λ l. IsAmong (i, r) l) guest_pairs m))),
            ap (λ z. z.kept) f.same ∙ ap (without 5) guest_kept,
          )

  -- the guest may begin
  pub guest_begins : (a : Seen P) → IsGuest a.seat → IsOpenScope a 0 × IsAmong 1 a.seat.empty × (a.shelf ≡ [] → used a ≡ 0) × (owed a.seat + 2 ≤ a.seat.spare)
  guest_begins a g =
      let w : trace a.seat ≡ [] = start_said a.seat a.seat g.start refl in let s = g.spare in
      let o : open_scopes (trace a.seat) ≡ 1 = ap open_scopes w in let l : length a.seat.opened ≡ 0 = ap length g.start.opened in (
        all_open a.seat 0 (ap closes w) (inl refl),
        subst (λ l. IsAmong 1 l) (sym g.empty) (here []),
        (λ e. ap (λ E. length (rows E) + strangers (numbers (rows E)) (firsts (said a.shelf))) w ∙ ap (λ l. 0 + strangers [] (firsts (said l))) e),
        omega (s, o, l, arith),
      )
