-- A stream whose node was run in a tree, and which cancelled its lease then.
use Rattle.std.proofs.Common.{◌≡◌, ℕ, suc, ◌+◌, ◌^◌, ◌<◌, ◌≤◌, ◌⊎◌, Bool, true, false, List, [], ◌∷◌, ◌++◌, inl, inr, map, length, Some, Option, refl, sym, ◌∙◌, ap, subst, ⊎_elim, arith, append_assoc, nat_eq}
use Rattle.std.proofs.lemmas.Bool.{false≢true}
use Rattle.std.specs.List.{IsDistinct}
use Rattle.chunk_core.specs.Lists.{IsAmong}
use Rattle.chunk_core.specs.Lists.IsAmong.{here, there}
use Rattle.chunk_core.specs.Outcomes.{exit_of}
use Rattle.chunk_core.specs.declared.code.Exit.{Exit}
use Rattle.chunk_core.specs.declared.code.How.{How}
use Rattle.chunk_core.proofs.Filters.{among_append}
use Rattle.chunk_core.proofs.Members.{among_cons, among_last, among_left, among_mid, among_nil}
use Rattle.chunk_core.proofs.Reversed.{among_reverse}
use Rattle.res_ledger.specs.declared.event.StreamNo.TheVariants.{Inner}
use Rattle.res_ledger.specs.declared.event.What.{What}
use Rattle.res_ledger.specs.declared.event.What.TheVariants.{Acquire, Cancel, Close, Final}
use Rattle.res_ledger.specs.declared.event.Event.{Event}
use Rattle.res_ledger.specs.Ledger.{IsFinalized, IsLegal, MayFollow, Notes}
use Rattle.res_ledger.specs.Order.{firsts}
use Rattle.res_ledger.specs.Own.{leased_of, opens, own}
use Rattle.res_ledger.proofs.Noted.{flat_holds, notes_own}
use Rattle.res_ledger.proofs.Prefixes.{split_at}
use Rattle.device_port.specs.Device.{DeviceTold}
use Rattle.pull_nodes.specs.Shape.{places_of, scope_count}
use Rattle.pull_nodes.specs.declared.node.Node.{Node}
use Rattle.row_seat.specs.declared.view.View.{View}
use Rattle.row_seat.specs.Views.{IsWithin}
use Rattle.scope_tree.specs.declared.branch.Spent.{Spent}
use Rattle.scope_tree.specs.Calls.{Cancels, IsClosedScope, Seen}
use Rattle.scope_tree.specs.Released.{Holder, Released, said}
use Rattle.scope_tree.specs.Released.Released.{done, stays, ends_so}
use Rattle.scope_tree.specs.Trace.{canceling, trace}
use Rattle.scope_tree.proofs.Follows.{is_end, released_follows, same_by, same_main}
use Rattle.scope_tree.proofs.Tidy.{own_by}
use Rattle.tree_laws.specs.Alone.{StaysAlone}
use Rattle.tree_laws.specs.Called.{Called, MayCancel}
use Rattle.tree_laws.specs.Shelves.{finals_of, shelf_ends}
use Rattle.tree_laws.specs.Called.Called.{cancelled}
use Rattle.tree_laws.specs.Ends.{IsFinishedLedger}
use Rattle.tree_laws.specs.Visits.{HasNothingOpen, IsNewGuest}
use Rattle.tree_laws.specs.Whole.{IsWholeLedger}
use Rattle.tree_laws.proofs.Ends.{called_events}
use Rattle.tree_laws.proofs.Room.{called_room}
use Rattle.tree_laws.proofs.Said.{called_ends}
use Rattle.tree_families.specs.Leaving.{LeavesLast}
use Rattle.pull_stepper.specs.Held.{FinishesDevice}
use Rattle.pull_stepper.specs.Placing.{first_of}
use Rattle.pull_stepper.specs.Sites.{Parted, SameDevice, pay_of, slot_of, told_at, told_by}
use Rattle.pull_stepper.specs.Stepping.{site_of}
use Rattle.pull_stepper.proofs.Slots.{slot_here, slot_past}
use Rattle.stream_parts.specs.Same.{AreSame}
use Rattle.joined_runs.specs.Shares.{ClosesRootBelow, IsShare}
use Rattle.job_runs.specs.Rows.{CoversNone, EndsAs, from_row, to_row}
use Rattle.job_runs.specs.Runs.{HasVisited}
use Rattle.job_runs.proofs.Closing.{Part, ShelfTells, lease_none, part, shelf_has, tells_same}
use Rattle.job_runs.proofs.PartedRows.{all_parted, each_spent, shelf_tells, stands_there}

-- before a Cancel of the lease for j stands none of it
none_before : (L A B : List Event) (e f : Event) (j : ℕ) (x y : Exit) → IsLegal L → L ≡ A ++ e ∷ B → e.what ≡ Cancel j x → IsAmong f A → f.what ≡ Cancel j y → ⊥
none_before L A B e f j x y legal is w m v = (subst (λ z. MayFollow A e.by z) w (legal A B e is)).1 (f.by, (y, (f, m, refl, v)))

-- a lease has one Cancel
one_cancel : (L : List Event) (e f : Event) (j : ℕ) (x y : Exit) → IsLegal L → IsAmong e L → IsAmong f L → e.what ≡ Cancel j x → f.what ≡ Cancel j y → e ≡ f
one_cancel L e f j x y legal m n w v =
    let t = split_at e L m in
    ⊎_elim
    (λ i. absurd (none_before L t.0 t.1 e f j x y legal t.2 w i v))
    (λ i. ⊎_elim
    (λ q. sym q)
    (λ k.
    let u = split_at f t.1 k in
    absurd (none_before L (t.0 ++ e ∷ u.0) u.1 f e j y x legal (t.2 ∙ ap (λ l. t.0 ++ e ∷ l) u.2 ∙ sym (append_assoc t.0 (e ∷ u.0) (f ∷ u.1))) v (among_mid t.0 u.0 e) w))
    (among_cons i))
    (among_append f t.0 (e ∷ t.1) (subst (λ l. IsAmong f l) t.2 n))

same_stream_of : (i j : ℕ) → Inner i ≡ Inner j → i ≡ j
same_stream_of i j e = cc

cancel_parts : (i j : ℕ) (x y : Exit) → Cancel i x ≡ Cancel j y → (i ≡ j) × (x ≡ y)
cancel_parts i j x y e = (cc, cc)

-- the end of a row leases nothing
end_leaseless : (w : What) → is_end w ≡ true → leased_of w ≡ []
end_leaseless (Final r x ok) e = refl
end_leaseless w e = cc

module _ {P : Type 0} {ends : P → Exit → Bool → P → Type 0} where
  -- the rows that ended are among those that were let go
  released_rows : {x : Exit} {h : Holder} {T : List ℕ} {v w : View P} {ys : List (Spent P)} → Released ends x h T v ys w → (z : Spent P) → IsAmong z ys → IsAmong z.row T
  released_rows (done v) z m = absurd (among_nil m)
  released_rows (stays v u r l t) z m = there r (released_rows t z m)
  released_rows (ends_so {T = T} v u y n l f t) z m = ⊎_elim (λ e. subst (λ q. IsAmong q (y.row ∷ T)) (sym (ap (λ (s : Spent P). s.row) e)) (here T)) (λ i. there y.row (released_rows t z i)) (among_cons m)

  -- what a tree noted that cancelled a lease is what it noted before, the Cancel, and ends of rows
  pub cancel_noted : {b y : Seen P} {j : ℕ} {T : List ℕ} {x : Exit} (c : Cancels ends b j T x y) (e : Event) → IsAmong e y.seat.events → IsAmong e b.seat.events ⊎ ((e ≡ canceling b.seat j x c.stamp) ⊎ (is_end e.what ≡ true))
  cancel_noted {b = b} {y = y} {j = j} {x = x} c e m =
      let f = released_follows c.left.2 in
      let before = b.seat.events ++ canceling b.seat j x c.stamp ∷ [] in
      ⊎_elim
      (λ i. ⊎_elim (λ o. inl o) (λ o. ⊎_elim (λ q. inr (inl q)) (λ n. absurd (among_nil n)) (among_cons o)) (among_append e b.seat.events (canceling b.seat j x c.stamp ∷ []) i))
      (λ i. inr (inr (f.events.2 e i).1))
      (among_append e before f.events.0 (subst (λ l. IsAmong e l) f.events.1 m))

  pub cancel_stands : {b y : Seen P} {j : ℕ} {T : List ℕ} {x : Exit} (c : Cancels ends b j T x y) → IsAmong (canceling b.seat j x c.stamp) y.seat.events
  cancel_stands {b = b} {j = j} {x = x} c =
      let f = released_follows c.left.2 in
      subst (λ l. IsAmong (canceling b.seat j x c.stamp) l) (sym f.events.1) (among_left f.events.0 (among_last b.seat.events (canceling b.seat j x c.stamp)))

  pub cancel_by : {b y : Seen P} {j : ℕ} {T : List ℕ} {x : Exit} → Cancels ends b j T x y → (y.seat.by ≡ b.seat.by) × (y.seat.main ≡ b.seat.main)
  cancel_by c = let f = released_follows c.left.2 in (same_by f, same_main f)

module _ {V : Type 0} (told : V → DeviceTold) where
  -- each device is the one of its place
  pub same_from : (w : ℕ → DeviceTold) (o : ℕ → Option V) (i : ℕ) (ds : List V) → ((p : ℕ) → i ≤ p → SameDevice (told_by told (slot_of p i (map Some ds)) (o p)) (w p)) → AreSame told w i ds
  same_from w o i [] h = tt
  same_from w o i (d ∷ ds) h = (
    subst (λ s. SameDevice (told_by told s (o i)) (w i)) (slot_here i i (Some d) (map Some ds) refl) (h i (omega arith)),
    same_from w o (suc i) ds (λ p l. subst (λ s. SameDevice (told_by told s (o p)) (w p)) (slot_past p i (Some d) (map Some ds) (λ e. omega (arith, e, l))) (h p (omega arith))),
  )

-- The node was run over these devices in a tree, from a to b. No device was read beyond the limit, and each stands on the shelf or was never opened; the root is closed as the node
-- ended, and the tree was left alone.
pub record RunsTree {V : Type 0} (told : V → DeviceTold) (n : Node) (devices : List V) (home : ℕ → DeviceTold) (a b : Seen V) (how : How) (unopened : List V) : Type 0 where
  pub same : (p : ℕ) → SameDevice (told_at told (site_of n a devices) p) (home p)
  pub within : (p : ℕ) → (home p).at ≤ 2 ^ 40
  pub parted : Parted told home b.shelf (first_of (places_of n) + length devices) (first_of (places_of n)) unopened
  pub once : IsDistinct nat_eq (firsts (said b.shelf))
  pub rows : (x : Spent V) → IsAmong x b.shelf → IsWithin (first_of (places_of n)) (first_of (places_of n) + length devices) x.row
  pub root : IsClosedScope b 0
  pub exits : (x : Exit) → Notes b.seat.events b.seat.by (Close 0 x) → x ≡ exit_of how
  pub calls : Called (FinishesDevice told) a [] b
  pub alone : StaysAlone a.seat b.seat

module _ {V : Type 0} (told : V → DeviceTold) (n : Node) (devices : List V) (k floor : ℕ) (T : List ℕ) (home : ℕ → DeviceTold) (a b : Seen V) (how : How) (unopened : List V) (guest : IsNewGuest a.seat k floor T) (runs : RunsTree told n devices home a b how unopened) where
  -- the lease is still there, with its rows, and the seat isn't the main one
  pub guest_kept : IsAmong k b.seat.kept
  guest_kept = subst (λ l. IsAmong k l) (sym runs.alone.kept) ((guest.kept k).1 refl)

  pub guest_pairs : (q : ℕ) → IsAmong q T → IsAmong (k, q) b.seat.pairs
  guest_pairs q m = subst (λ l. IsAmong (k, q) l) (sym runs.alone.pairs) ((guest.pairs k q).1 (refl, m))

  pub guest_main : b.seat.main ≡ false
  guest_main = runs.alone.main ∙ guest.main

module _ {V : Type 0} (told : V → DeviceTold) (n : Node) (devices : List V) (k floor : ℕ) (T : List ℕ) (home : ℕ → DeviceTold) (a b y : Seen V) (how : How) (unopened : List V) (guest : IsNewGuest a.seat k floor T) (bare : a.shelf ≡ [])
    (just : a.scopes ≡ scope_count n + 1) (count : length devices ≡ length (places_of n)) (runs : RunsTree told n devices home a b how unopened) (x : Exit) (x_is : x ≡ exit_of how) (cancels : Cancels (FinishesDevice told) b k T x y)
    (finalized : (q s : ℕ) → Notes b.seat.events b.seat.by (Acquire q s) → IsFinalized b.seat.events q) (root : IsClosedScope y 0) where
  -- the rows that it was the last to leave
  abbrev lent : List (Spent V)
  lent = cancels.left.0

  shelf_is : y.shelf ≡ b.shelf ++ lent
  shelf_is = cancels.left.1

  may_cancel : MayCancel b k T
  may_cancel = record {
    kept = guest_kept told n devices k floor T home a b how unopened guest runs;
    ended = λ by. finalized;
    pairs = guest_pairs told n devices k floor T home a b how unopened guest runs;
  }

  calls : Called (FinishesDevice told) a ((k, T) ∷ []) y
  calls = cancelled b y k T x runs.calls may_cancel cancels

  by_b : b.seat.by ≡ Inner k
  by_b = runs.alone.by ∙ guest.by

  by_y : y.seat.by ≡ Inner k
  by_y = (cancel_by cancels).0 ∙ by_b

  -- each of its events before the Cancel is its own, and no Lease
  own_before : (e : Event) → IsAmong e b.seat.events → (e.by ≡ b.seat.by) × (leased_of e.what ≡ [])
  own_before e m = ⊎_elim (λ o. absurd (among_nil (subst (λ l. IsAmong e l) guest.start.events o))) (λ o. o) (runs.alone.events e m)

  leaseless : (e : Event) → IsAmong e y.seat.events → e.by ≡ y.seat.by → leased_of e.what ≡ []
  leaseless e m by = ⊎_elim (λ i. (own_before e i).1) (λ i. ⊎_elim (λ q. ap (λ (z : Event). leased_of z.what) q) (λ f. end_leaseless e.what f) i) (cancel_noted cancels e m)

  exits_y : (z : Exit) → Notes y.seat.events y.seat.by (Close 0 z) → z ≡ exit_of how
  exits_y z m =
      ⊎_elim
      (λ i. runs.exits z (m.0, i, m.2 ∙ (by_y ∙ sym by_b), m.3))
      (λ i. ⊎_elim
      (λ q. absurd (let f : Cancel k x ≡ Close 0 z = sym (ap (λ (e : Event). e.what) q) ∙ m.3 in cc))
      (λ f. absurd (false≢true (ap is_end (sym m.3) ∙ f)))
      i)
      (cancel_noted cancels m.0 m.1)

  within_b : (s : Spent V) → IsAmong s b.shelf → IsWithin (from_row n) (first_of (places_of n) + length devices) s.row
  within_b s m = runs.rows s m

  -- a row that it acquired ended before
  over_b : (q s : ℕ) → Notes y.seat.events y.seat.by (Acquire q s) → IsAmong q (firsts (said b.shelf))
  over_b q s m =
      let acquired : Notes b.seat.events b.seat.by (Acquire q s) = ⊎_elim
      (λ i. (m.0, i, m.2 ∙ (by_y ∙ sym by_b), m.3))
      (λ i. ⊎_elim
      (λ e. absurd (let f : Cancel k x ≡ Acquire q s = sym (ap (λ (z : Event). z.what) e) ∙ m.3 in cc))
      (λ f. absurd (false≢true (ap is_end (sym m.3) ∙ f)))
      i)
      (cancel_noted cancels m.0 m.1) in
      let f = finalized q s acquired in
      let noted = f.2.1 in
      let here_it : IsAmong (Final q f.2.0 f.1) (trace b.seat) = notes_own b.seat.events b.seat.by (Final q f.2.0 f.1) (noted.0, noted.1, (own_before noted.0 noted.1).0, noted.3) in
      shelf_has b.shelf q f.2.0 f.1 (subst (λ l. IsAmong (q, f.2.0, f.1) l) (called_ends guest.start bare runs.calls) (flat_holds finals_of (Final q f.2.0 f.1) (trace b.seat) (q, f.2.0, f.1) here_it (here [])))

  tells_b : ShelfTells (from_row n) (from_row n + length devices) home b.shelf
  tells_b = shelf_tells told home (from_row n + length devices) b.shelf (from_row n) runs.parted runs.once within_b

  module _ (w : ℕ → DeviceTold) (u : View V) (L : List Event) (fin : IsFinishedLedger y u L) (whole : IsWholeLedger L) (uncovered : CoversNone (from_row n) (to_row n) L) (agrees : (q : ℕ) → IsWithin (from_row n) (to_row n) q → w q ≡ home q) (others : (z : Spent V) → IsAmong z lent → EndsAs w z)
      (leaves : LeavesLast y) where
    noted_is : own y.seat.by L ≡ trace y.seat
    noted_is = own_by y.seat.by L ∙ ap (map (λ (e : Event). e.what)) (called_events u L guest.start calls fin) ∙ sym (own_by y.seat.by y.seat.events)

    few : length (opens (own (Inner k) L)) ≤ scope_count n
    few =
        let room = called_room guest.start (omega (arith, just)) calls in
        subst (λ q. length (opens (own q L)) ≤ scope_count n) by_y (subst (λ E. length (opens E) ≤ scope_count n) (sym noted_is) (let l = room.0 in let s = room.1 in omega (arith, l, s, just)))

    to_is : to_row n ≡ from_row n + length devices
    to_is = omega (arith, count)

    its_part : Part (Inner k) (from_row n) (to_row n) (scope_count n) w how L
    its_part =
        subst (λ c. Part (Inner k) (from_row n) c (scope_count n) w how L) (sym to_is)
        (part y.seat u L b.shelf lent (Inner k) (from_row n) (from_row n + length devices) (scope_count n) w how by_y fin.ledger fin.own whole (subst (λ c. CoversNone (from_row n) c L) to_is uncovered) few leaseless
        (called_ends guest.start bare calls ∙ ap (λ xs. shelf_ends xs) shelf_is) over_b root exits_y
        (tells_same home w (λ q l. agrees q (l.0, subst (λ c. q < c) (sym to_is) l.1)) tells_b) others)

    here_too : (e : Event) → IsAmong e y.seat.events → e.by ≡ y.seat.by → IsAmong e L
    here_too e m by = (fin.ledger.whole e).1 ((fin.own e by).1 m)

    mine : (e : Event) → IsAmong e L → e.by ≡ Inner k → IsAmong e y.seat.events
    mine e m by = (fin.own e (by ∙ sym by_y)).0 ((fin.ledger.whole e).0 m)

    cancel_event : Event
    cancel_event = canceling b.seat k x cancels.stamp

    -- a Cancel of the stream is of its own lease
    own_lease : (e : Event) (j : ℕ) (z : Exit) → IsAmong e L → e.by ≡ Inner k → e.what ≡ Cancel j z → j ≡ k
    own_lease e j z m by w =
        let parts = split_at e L m in
        let may : MayFollow parts.0 (Inner k) (Cancel j z) = subst (λ q. MayFollow parts.0 q (Cancel j z)) by (subst (λ q. MayFollow parts.0 e.by q) w (whole.legal parts.0 parts.1 e parts.2)) in
        ⊎_elim
        (λ o. sym (same_stream_of k j o.0))
        (λ o. let l = o.0.1 in let i : IsAmong l.0 L = subst (λ q. IsAmong l.0 q) (sym parts.2) (among_left (e ∷ parts.1) l.1) in absurd (lease_none j o.0.0 l.0.what l.3 (leaseless l.0 (mine l.0 i l.2) (l.2 ∙ sym by_y))))
        may.2

    leaves_so : (e : Event) (j : ℕ) (z : Exit) → IsAmong e L → e.by ≡ Inner k → e.what ≡ Cancel j z → (j ≡ k) × (z ≡ exit_of how) × ClosesRootBelow e.stamp L (Inner k)
    leaves_so e j z m by w =
        let jk = own_lease e j z m by w in
        let is : e ≡ canceling b.seat k x cancels.stamp = one_cancel L e (canceling b.seat k x cancels.stamp) k z x whole.legal m (here_too (canceling b.seat k x cancels.stamp) (cancel_stands cancels) (by_b ∙ sym by_y)) (subst (λ q. e.what ≡ Cancel q z) jk w) refl in
        let zx : z ≡ x = (cancel_parts j k z x (sym w ∙ ap (λ (f : Event). f.what) is)).1 in
        let c = leaves e j z (mine e m by) (by ∙ sym by_y) w in
        let o = c.1 in
        (jk, zx ∙ x_is, (o.0, c.0, here_too o.0 o.1 o.2, o.2 ∙ by_y, o.3, o.4))

    pub its_share : IsShare k (from_row n) (to_row n) (scope_count n) w how L
    its_share = record {
      opened = its_part.opened;
      leases = its_part.leases;
      acquired = its_part.acquired;
      each = its_part.each;
      ended = its_part.ended;
      closed = its_part.closed;
      exits = its_part.exits;
      leaves = leaves_so;
    }

  -- what the stream did, whose seat has come to rest
  pub visited_so : (seat : View V) (shelf : List (Spent V)) → seat ≡ y.seat → shelf ≡ y.shelf → IsDistinct nat_eq (firsts (said y.shelf)) → HasNothingOpen y.seat → LeavesLast y → HasVisited told n devices k floor T home seat shelf unopened how
  visited_so seat shelf seat_is on_shelf distinct rest leaves = record {
    last = y;
    seat_is = seat_is;
    shelf_is = on_shelf;
    visit = record { first = a; guest = guest; calls = calls; root = root };
    bare = bare;
    rest = rest;
    leaves = leaves;
    mine = b.shelf;
    lent = lent;
    parts = on_shelf ∙ shelf_is;
    once = subst (λ xs. IsDistinct nat_eq (firsts (said xs))) (sym on_shelf) distinct;
    leased = λ z m. among_reverse z.row T (released_rows cancels.left.2 z m);
    stood = λ z m. let l = within_b z m in ((l.0, let h = l.1 in omega (arith, h, count)), stands_there told home (from_row n + length devices) b.shelf (from_row n) runs.parted runs.once within_b z m);
    same = same_from told home (λ p. pay_of a p) (from_row n) devices (λ p l. runs.same p);
    each = all_parted told home (from_row n + length devices) b.shelf (from_row n) runs.parted runs.once within_b (length devices) refl;
    still = λ q w. each_spent told home (from_row n + length devices) b.shelf (from_row n) runs.parted runs.once within_b q w.0 (let l = w.1 in omega (arith, l, count));
    within = λ q w. runs.within q;
    share = λ w u L fin whole uncovered agrees others. its_share w u L fin whole uncovered agrees others leaves;
  }
