-- A stream that was run alone.
use Rattle.std.proofs.Common.{◌≡◌, ℕ, zero, suc, ◌+◌, ◌-◌, ◌*◌, ◌^◌, ◌<◌, ◌≤◌, List, [], ◌∷◌, inl, map, length, Option, Some, refl, sym, ◌∙◌, ap, subst, ⊎_elim, arith}
use Rattle.std.proofs.lemmas.Bool.{cases_lt}
use Rattle.chunk_core.specs.Lists.{IsAmong}
use Rattle.chunk_core.specs.Lists.IsAmong.{here, there}
use Rattle.chunk_core.proofs.Members.{among_nil}
use Rattle.chunk_core.specs.declared.code.How.{How}
use Rattle.res_ledger.specs.declared.event.StreamNo.{StreamNo}
use Rattle.res_ledger.specs.declared.event.Event.{Event}
use Rattle.device_port.specs.Device.{DeviceTold}
use Rattle.pull_nodes.specs.Shape.{places_of, scope_count}
use Rattle.chunk_core.specs.Tables.{no_values}
use Rattle.pull_nodes.specs.declared.node.Node.{Node}
use Rattle.row_seat.specs.Views.{IsLedgerOf, IsWithin, run, start}
use Rattle.scope_tree.specs.declared.branch.Spent.{Spent}
use Rattle.scope_tree.specs.Calls.{AtStart, Seen}
use Rattle.res_ledger.specs.Own.{opens, own}
use Rattle.scope_tree.specs.Trace.{trace}
use Rattle.scope_tree.proofs.Tidy.{ledger_by, own_by}
use Rattle.tree_laws.proofs.Alone.{alone_whole, first_at_start}
use Rattle.tree_laws.proofs.Kept.{called_rises}
use Rattle.tree_laws.proofs.Room.{called_room}
use Rattle.tree_laws.proofs.Said.{called_ends}
use Rattle.tree_laws.specs.Whole.{IsWholeLedger}
use Rattle.pull_stepper.specs.Placing.{first_of}
use Rattle.pull_stepper.specs.Sites.{Parted, SameDevice, pay_of, slot_of, told_by}
use Rattle.pull_stepper.specs.Stepping.{HasRoomFor}
use Rattle.pull_stepper.proofs.Slots.{slot_here, slot_past}
use Rattle.stream_parts.specs.Same.{AreSame}
use Rattle.lone_stream.specs.declared.run.Ran.{Ran}
use Rattle.lone_stream.specs.Account.{IsAccountOf}
use Rattle.lone_stream.specs.Ran.{ComesHome}
use Rattle.lone_stream.specs.Rooms.{IsFresh, IsRoomFor, event_count}
use Rattle.lone_stream.specs.declared.room.StreamRoom.{StreamRoom}
use Rattle.row_seat.specs.declared.view.View.{View}
use Rattle.scope_tree.specs.Visible.{row_room, scope_room}
use Rattle.lone_stream.specs.Nodes.{LeavesNode}
use Rattle.lone_stream.proofs.Closing.{account}
use Rattle.job_runs.proofs.PartedRows.{all_parted, each_spent, shelf_tells}

-- the numbers from n on
pub in_run : (n k p : ℕ) → n ≤ p → p < n + k → IsAmong p (run n k)
in_run n zero p l m = absurd (omega arith)
in_run n (suc k) p l m =
    ⊎_elim
    (λ (s : n < p). there n (in_run (suc n) k p (omega arith) (omega arith)))
    (λ (s : p ≤ n). let e : n ≡ p = omega arith in subst (λ q. IsAmong q (n ∷ run (suc n) k)) e (here (run (suc n) k)))
    (cases_lt n p)

-- a row for each place of a node
abbrev row_count : Node → ℕ
row_count n = length (places_of n)

-- a seat of one row has room for a node of one place
pub one_row : {P : Type 0} (who : StreamNo) (n : Node) → length (places_of n) ≡ 1 → scope_count n ≡ 0 → start {P = P} who 1 3 (2 ^ 32 - 1) ≡ start who (length (places_of n)) (event_count n) (2 ^ 32 - 1)
one_row {P = P} who n places scopes =
    let all : 3 ≡ event_count n = omega (arith, places, scopes) in
    ap (λ k. start {P = P} who k 3 (2 ^ 32 - 1)) (sym places) ∙ ap (λ k. start {P = P} who (length (places_of n)) k (2 ^ 32 - 1)) all

module _ {V : Type 0} (who : StreamNo) (n : Node) where
  -- a tree of a fresh seat
  abbrev at_first : ℕ → ℕ → Seen V
  at_first s r = record { seat = start who (row_count n) (event_count n) (2 ^ 32 - 1); shelf = []; scopes = s; rows = r }

  first_room : (s r : ℕ) → first_of (places_of n) ≡ 0 → scope_count n + 1 ≤ s → row_count n ≤ r → HasRoomFor (at_first s r) n
  first_room s r zero_is enough rows = record {
    root = (inl refl, λ c. among_nil c.2.1.1);
    owed = refl;
    opened = refl;
    empty = λ p w. in_run 0 (row_count n) p (omega arith) (omega (arith, w.1, zero_is));
    events = omega arith;
    scopes = omega (arith, enough);
    rows = omega (arith, rows);
  }

  -- there is room in it for the node
  pub start_room : (a : Seen V) (s r : ℕ) → a ≡ at_first s r → first_of (places_of n) ≡ 0 → scope_count n + 1 ≤ s → row_count n ≤ r → HasRoomFor a n
  start_room a s r e zero_is enough rows = subst (λ x. HasRoomFor x n) (sym e) (first_room s r zero_is enough rows)

  -- it is fresh
  pub is_fresh : (a : Seen V) (s r : ℕ) → a ≡ at_first s r → first_of (places_of n) ≡ 0 → s ≡ scope_count n + 1 → IsFresh who n a
  is_fresh a s r e zero_is just = record { seat = ap (λ (x : Seen V). x.seat) e; shelf = ap (λ (x : Seen V). x.shelf) e; scopes = ap (λ (x : Seen V). x.scopes) e ∙ just; first = zero_is }

  -- it is that of the room of a stream
  pub room_seen : {S : Type 0} (view : S → View V) (room : StreamRoom S V) → IsRoomFor view who n room → (a : Seen V) → a ≡ record { seat = view room.seat; shelf = []; scopes = scope_room room.scopes; rows = row_room room.scopes } → first_of (places_of n) ≡ 0 → IsFresh who n a × HasRoomFor a n
  room_seen view room is a e zero_is =
      let same = e ∙ ap (λ v. let x : Seen V = record { seat = v; shelf = []; scopes = scope_room room.scopes; rows = row_room room.scopes } in x) is.seat in
      (is_fresh a (scope_room room.scopes) (row_room room.scopes) same zero_is is.scopes, start_room a (scope_room room.scopes) (row_room room.scopes) same zero_is (omega (arith, is.scopes)) is.rows)

module _ {V : Type 0} (told : V → DeviceTold) where
  -- each device is the one of its place
  pub same_from : (w : ℕ → DeviceTold) (o : ℕ → Option V) (i : ℕ) (ds : List V) → ((p : ℕ) → i ≤ p → SameDevice (told_by told (slot_of p i (map Some ds)) (o p)) (w p)) → AreSame told w i ds
  same_from w o i [] h = tt
  same_from w o i (d ∷ ds) h = (
    subst (λ s. SameDevice (told_by told s (o i)) (w i)) (slot_here i i (Some d) (map Some ds) refl) (h i (omega arith)),
    same_from w o (suc i) ds (λ p l. subst (λ s. SameDevice (told_by told s (o p)) (w p)) (slot_past p i (Some d) (map Some ds) (λ e. omega (arith, e, l))) (h p (omega arith))),
  )

  module _ (who : StreamNo) (n : Node) (devices : List V) (home : ℕ → DeviceTold) (a b : Seen V) (how : How) (unopened : List V) (L : List Event) (places events splits : ℕ) (zero_is : first_of (places_of n) ≡ 0) (fresh : a.seat ≡ start who places events splits)
      (some : 1 ≤ events) (just : a.scopes ≡ scope_count n + 1) (runs : LeavesNode told n devices home a b how unopened) (ledger : IsLedgerOf b.seat L) (bare : a.shelf ≡ []) where
    count : first_of (places_of n) + length devices ≡ length devices
    count = omega (arith, zero_is)

    parted_here : Parted told home b.shelf (length devices) 0 unopened
    parted_here = subst (λ k. Parted told home b.shelf k 0 unopened) count (subst (λ i. Parted told home b.shelf (first_of (places_of n) + length devices) i unopened) zero_is runs.parted)

    rows_here : (x : Spent V) → IsAmong x b.shelf → IsWithin 0 (length devices) x.row
    rows_here x m = let w = runs.rows x m in (omega arith, omega (arith, w.1, zero_is))

    begins : AtStart a.seat
    begins = first_at_start a.seat who places events splits fresh some

    whole : IsWholeLedger L
    whole = alone_whole L begins runs.calls runs.alone runs.root ledger

    named : b.seat.by ≡ who
    named = runs.alone.by ∙ ap (λ v. v.by) fresh

    -- what the ledger has of the stream is what it noted
    noted_is : own b.seat.by L ≡ trace b.seat
    noted_is = own_by b.seat.by L ∙ ap (map (λ (e : Event). e.what)) (ledger_by b.seat L b.seat.by ledger (called_rises begins runs.calls)) ∙ sym (own_by b.seat.by b.seat.events)

    -- no more scopes were opened than there was room for
    opened : length (opens (own who L)) ≤ scope_count n
    opened =
        let room = called_room begins (omega (arith, just)) runs.calls in
        subst (λ k. length (opens (own k L)) ≤ scope_count n) named (subst (λ E. length (opens E) ≤ scope_count n) (sym noted_is) (let l = room.0 in let s = room.1 in omega (arith, l, s, just)))

    accounted : IsAccountOf who (length devices) (scope_count n) home how L
    accounted = account b.seat L b.shelf (length devices) (scope_count n) home how named ledger whole opened
        (λ e m. ⊎_elim (λ i. absurd (among_nil (subst (λ v. IsAmong e v.events) fresh i))) (λ k. k) (runs.alone.events e m))
        (called_ends begins bare runs.calls) runs.root runs.exits (shelf_tells told home (length devices) b.shelf 0 parted_here runs.once rows_here)

    pub stream_ran : ComesHome told who n devices home (record { how = how; ledger = L; shelf = b.shelf; unopened = unopened })
    stream_ran = record {
      same = same_from home (λ p. pay_of a p) 0 devices (λ p l. subst (λ f. SameDevice (told_by told (slot_of p f (map Some devices)) (pay_of a p)) (home p)) zero_is (runs.same p));
      each = all_parted told home (length devices) b.shelf 0 parted_here runs.once rows_here (length devices) (omega arith);
      rest = λ q l. each_spent told home (length devices) b.shelf 0 parted_here runs.once rows_here q (omega arith) l;
      within = runs.within;
      account = accounted;
    }
