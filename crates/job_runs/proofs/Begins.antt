-- A stream begins over a new tree.
use Rattle.std.proofs.Common.{◌≡◌, ℕ, ◌≤◌, List, length, refl, sym, ◌∙◌, ap, subst, arith}
use Rattle.chunk_core.specs.Lists.{IsAmong}
use Rattle.chunk_core.specs.Tables.{Values}
use Rattle.device_port.specs.Device.{DeviceTold}
use Rattle.interrupt_ctx.specs.Ends.{SeatSeen}
use Rattle.pull_nodes.specs.declared.node.Node.{Node}
use Rattle.row_seat.specs.declared.view.View.{View}
use Rattle.scope_tree.specs.declared.room.Room.{Room}
use Rattle.scope_tree.specs.Calls.{Seen}
use Rattle.tree_laws.specs.Visits.{IsNewGuest}
use Rattle.pull_stepper.specs.Stepping.{HasRoomFor, IsSupplied}
use Rattle.stream_jobs.specs.Running.{IsBegun}
use Rattle.job_runs.specs.Origins.{IsNewTree, IsOriginOf, OriginsBegin, origin_of}
use Rattle.job_runs.specs.Rows.{HasRoomAsGuest}

module _ {V P : Type 0} (k : ℕ) (T : List ℕ) (n : Node) (seat : View V) (room : Room P) (a : Seen V) (new : IsNewTree seat room a) (guest : IsNewGuest seat k seat.floor T) (h : HasRoomAsGuest seat n room T) where
  seat_is : a.seat ≡ seat
  seat_is = ap (λ (x : Seen V). x.seat) new.seen

  room_for : HasRoomFor a n
  room_for =
      let spare = ap (λ (v : View V). v.spare) seat_is in
      let scopes = ap (λ (x : Seen V). x.scopes) new.seen in
      let rows = ap (λ (x : Seen V). x.rows) new.seen in
      let none = ap (λ xs. length xs) new.used.1 in
      record {
        root = new.root;
        owed = new.owed;
        opened = ap (λ (v : View V). v.opened) seat_is ∙ guest.start.opened;
        empty = λ p w. subst (λ (v : View V). IsAmong p v.empty) (sym seat_is) (h.empty p w);
        events = let e = h.events in omega (arith, e, spare);
        scopes = let e = h.scopes in omega (arith, e, scopes, none);
        rows = let e = h.rows in let u = new.used.0 in omega (arith, e, rows, u);
      }

  guest_here : IsNewGuest a.seat k a.seat.floor T
  guest_here = subst (λ (v : View V). IsNewGuest v k v.floor T) (sym seat_is) guest

  module _ {F : Type 0} (told : V → DeviceTold) (board : SeatSeen) (devices : List V) (t : Values) (chunk : ℕ) (supplied : IsSupplied told n devices) (some : 1 ≤ chunk) where
    begun_here : IsBegun {F = F} told (origin_of k T board n a devices t chunk)
    begun_here =
        let spare = ap (λ (v : View V). v.spare) seat_is in
        let rows = ap (λ (x : Seen V). x.rows) new.seen in
        record {
          guest = guest_here;
          events = let e = h.events in let o = new.owed in omega (arith, e, spare, o);
          rows = let e = h.rows in let u = new.used.0 in omega (arith, e, rows, u);
        }

    origin_here : IsOriginOf {F = F} told n devices t chunk (origin_of k T board n a devices t chunk)
    origin_here = record {
      site = a;
      is_of = record {
        start = refl;
        supplied = supplied;
        room = room_for;
        bare = ap (λ (x : Seen V). x.shelf) new.seen;
        chunk = some;
        begun = begun_here;
      };
      scopes = ap (λ (x : Seen V). x.scopes) new.seen ∙ h.scopes;
      tables = refl;
      chunk_is = refl;
    }

pub origins_begin : {V F P : Type 0} (told : V → DeviceTold) → OriginsBegin V F P told
origins_begin {F = F} told = record {
  room = λ k T n seat room a new guest h. room_for k T n seat room a new guest h;
  origin = λ k T board n devices t chunk seat room a new guest h supplied some. origin_here k T n seat room a new guest h {F = F} told board devices t chunk supplied some;
}
