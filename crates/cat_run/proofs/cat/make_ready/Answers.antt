-- The room is that of the node.
use Rattle.std.proofs.Common.{refl, sym, subst}
use Rattle.row_seat.specs.PlainSeats.{shown}
use Rattle.res_ledger.specs.declared.event.StreamNo.TheVariants.{Inner}
use Rattle.lone_stream.specs.Rooms.{IsRoomFor}
use Rattle.cat_run.proofs.cat.make_ready.Goals as goal

pub returns : goal.returns
returns g c =
    let n = c.in_ok-node.ensures in
    record {
      node = n;
      room = subst (λ m. IsRoomFor shown (Inner 0) m c.in_ok-room.room) (sym n.1) (c.in_ok-room.ensures.room _ refl refl);
      sits = c.in_ok-room.ensures.sits;
      ends = c.in_ok-ends.ensures.items;
      end_room = c.in_ok-ends.ensures.exact;
      devices = c.in_ok-devices.ensures.items;
      capacity = c.in_ok-devices.ensures.exact;
    }
