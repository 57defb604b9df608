-- A stream whose seat was just split off may begin.
use Rattle.std.proofs.Common.{◌≡◌, ℕ, ◌+◌, ◌-◌, ◌<◌, ◌≤◌, ◌^◌, List, [], Option, Some, length, refl, sym, ◌∙◌, ap, subst, arith}
use Rattle.chunk_core.specs.Lists.{IsAmong}
use Rattle.chunk_core.specs.Tables.{Values}
use Rattle.device_port.specs.Device.{DeviceTold}
use Rattle.device_port.specs.Depot.{DepotTold}
use Rattle.channel_bounded.specs.Ends.{HubSeen, SenderSeen}
use Rattle.channel_bounded.specs.declared.message.Msg.{Msg}
use Rattle.interrupt_ctx.specs.Ends.{BoardSeen, SeatSeen}
use Rattle.pipeline_desc.specs.Meant.{PlanMeant}
use Rattle.pipeline_desc.specs.Nodes.{event_count, events_of}
use Rattle.pipeline_desc.specs.Places.{outer_rows, rows_of}
use Rattle.pull_nodes.specs.declared.node.Node.{Node}
use Rattle.pull_stepper.specs.Stepping.{HasRoomFor, IsSupplied, Stepping, begun}
use Rattle.row_seat.specs.declared.view.View.{View}
use Rattle.row_seat.specs.Views.{split_off}
use Rattle.scope_tree.specs.declared.room.Room.{Room}
use Rattle.scope_tree.specs.Calls.{IsOpenScope, Seen, used}
use Rattle.scope_tree.specs.Trace.{owed, trace}
use Rattle.res_ledger.specs.Own.{opens}
use Rattle.stream_jobs.specs.Jobs.{IsAt}
use Rattle.stream_jobs.specs.Running.{Origin}
use Rattle.stream_jobs.specs.Unmade.{IsOfNode, IsUnmade}
use Rattle.stream_parts.specs.Named.{path_of}
use Rattle.stream_parts.specs.Parts.{MakesParts}
use Rattle.stream_parts.specs.declared.parts.StreamParts.{StreamParts}
use Rattle.stream_parts.proofs.PartsMade.{first_place, places_count, row_behind}
use Rattle.tree_laws.specs.Visits.{IsNewGuest}
use Rattle.dealt_streams.specs.Parts.{AreTableRows}
use Rattle.collector.specs.Starting.{HasRoomAsGuest}
use Rattle.collector.proofs.Lists.{run_there}

module _ {V P : Type 0} (n : Node) (v : View V) (room : Room P) (a : Seen V) (is : a ≡ record { seat = v; shelf = []; scopes = room.scopes; rows = room.rows }) (root : IsOpenScope a 0) (owes : owed a.seat ≡ 1) (none : (used a ≡ 0) × (opens (trace a.seat) ≡ [])) (opened : v.opened ≡ []) (T : List ℕ) (h : HasRoomAsGuest v n room T) where
  -- in the tree over such a seat there is room for the node
  pub guest_room : HasRoomFor a n
  guest_room =
      let seat = ap (λ (x : Seen V). x.seat) is in
      let spare = ap (λ (x : Seen V). x.seat.spare) is in
      let scopes = ap (λ (x : Seen V). x.scopes) is in
      let rows = ap (λ (x : Seen V). x.rows) is in
      let opens_none = ap (λ (xs : List (ℕ × ℕ)). length xs) none.1 in
      record {
        root = root;
        owed = owes;
        opened = ap (λ (x : View V). x.opened) seat ∙ opened;
        empty = λ p w. subst (λ (x : View V). IsAmong p x.empty) (sym seat) (h.empty p w);
        events = let e = h.events in omega (arith, e, spare);
        scopes = let e = h.scopes in omega (arith, e, scopes, opens_none);
        rows = let e = h.rows in let u = none.0 in omega (arith, e, rows, u);
      }

  -- the stream is about to run it
  pub is_of : {F : Type 0} (told : V → DeviceTold) (k chunk : ℕ) (ds : List V) (values : Values) (board : SeatSeen) → IsNewGuest v k v.floor T → IsSupplied told n ds → 1 ≤ chunk
      → IsOfNode {F = F} told n a ds (record { stream = k; leased = T; start = begun n a ds values chunk; board = board })
  is_of told k chunk ds values board guest supplied some =
      let seat = ap (λ (x : Seen V). x.seat) is in
      let spare = ap (λ (x : Seen V). x.seat.spare) is in
      let rows = ap (λ (x : Seen V). x.rows) is in
      record {
        start = refl;
        supplied = supplied;
        room = guest_room;
        bare = ap (λ (x : Seen V). x.shelf) is;
        chunk = some;
        begun = record {
          guest = subst (λ (x : View V). IsNewGuest x k x.floor T) (sym seat) guest;
          events = let e = h.events in omega (arith, e, spare, owes);
          rows = let e = h.rows in let u = none.0 in omega (arith, e, rows, u);
        };
      }

  -- so it is where its stepper found no memory, and gave the tree and the devices back
  pub unmade_so : {F : Type 0} (told : V → DeviceTold) (k chunk : ℕ) (ds : List V) (values : Values) (seat : SeatSeen) (b : Seen V) (es : List V) → b ≡ a → es ≡ ds → IsNewGuest v k v.floor T → IsSupplied told n ds → 1 ≤ chunk
      → IsUnmade told k T seat b es (let w : Origin V F = record { stream = k; leased = T; start = begun n a ds values chunk; board = seat } in w)
  unmade_so {F = F} told k chunk ds values seat b es tree devices guest supplied some =
      let w : Origin V F = record { stream = k; leased = T; start = begun n a ds values chunk; board = seat } in
      subst (λ xs. IsUnmade told k T seat b xs w) (sym devices)
      (subst (λ x. IsUnmade told k T seat x ds w) (sym tree) (record { stream = refl; leased = refl; board = refl; node = n; is_of = is_of told k chunk ds values seat guest supplied some }))

-- the seat that is split off has room for the stream
pub has_room : {V : Type 0} (told : V → DeviceTold) (p : PlanMeant) (k : ℕ) {path : Option (List ℕ)} {mid now : DepotTold} (parts : StreamParts V) (makes : MakesParts told p k path mid now parts) (v w : View V) (e : ℕ) (R : List ℕ) → AreTableRows (outer_rows p) R → events_of p k ≡ Some e
    → w ≡ split_off v k (rows_of p k).from (rows_of p k).to e → HasRoomAsGuest w parts.node parts.room R
has_room told p k {path = path} parts makes v w e R rows h is =
    let first = first_place p (path_of path) k makes.stream makes.stream_is parts.node makes.places in
    let count = places_count p (path_of path) k makes.stream makes.stream_is parts.node makes.places in
    let behind = row_behind p (path_of path) k makes.stream makes.stream_is in
    let events : Some e ≡ Some (event_count parts.node + 1 + outer_rows p) = sym h ∙ makes.events in
    let counted : e ≡ event_count parts.node + 1 + outer_rows p = cc in
    let spare = ap (λ (x : View _). x.spare) is in
    let size = rows.few in
    let most = makes.most_rows in
    record {
      empty = λ r q. subst (λ (x : View _). IsAmong r x.empty) (sym is) (run_there (rows_of p k).from ((rows_of p k).to - (rows_of p k).from) r (let low = q.0 in omega (arith, low, first)) (let high = q.1 in omega (arith, high, first, count, behind)));
      events = omega (arith, counted, spare, size);
      scopes = makes.most_scopes;
      rows = omega (arith, most, size);
    }

-- its job is at the hub and at the board
pub job_at : {V F : Type 0} (running : Option (Stepping V F)) (seat : SeatSeen) (sender : SenderSeen) (waiting : Option Msg) (k : ℕ) (hub : HubSeen) (board : BoardSeen) → seat.board ≡ board.id → sender ≡ record { hub = hub.id; stream = k; sent = [] } → 1 + k < board.contexts → 1 + k < 2 ^ 32
    → IsAt (record { running = running; board = seat; sender = sender; waiting = waiting }) hub board
job_at running seat sender waiting k hub board at is context number =
    let stream = ap (λ (s : SenderSeen). s.stream) is in
    record {
      hub_is = ap (λ (s : SenderSeen). s.hub) is;
      board_is = at;
      context = omega (arith, stream, context);
      number = omega (arith, stream, number);
    }
