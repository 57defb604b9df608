-- The room is that of the node and of the branches.
use Rattle.std.proofs.Common.{refl, sym, subst, arith}
use Rattle.std.proofs.lemmas.List.{length-map}
use Rattle.row_seat.specs.PlainSeats.{shown}
use Rattle.res_ledger.specs.declared.event.StreamNo.TheVariants.{Outer}
use Rattle.lone_stream.specs.Rooms.{IsRoomFor}
use Rattle.tee_run.specs.Chains.{meaning_of, meanings_of}
use Rattle.tee_run.proofs.room.make_ready.Goals as goal

pub new-requires : goal.new-requires
new-requires g c =
    let n = c.in_ok-chains.ensures.count in
    let m = length-map c.args.branches.now meaning_of in
    (omega (arith, n, m, c.requires.count.0), omega (arith, n, m, c.requires.count.1))

pub returns : goal.returns
returns g c =
    let n = c.in_ok-node.ensures in
    record {
      node = n;
      room = subst (λ m. IsRoomFor shown Outer m c.in_ok-room.room) (sym n.1) (c.in_ok-room.ensures.room _ refl refl);
      sits = c.in_ok-room.ensures.sits;
      devices = c.in_ok-devices.ensures.items;
      capacity = c.in_ok-devices.ensures.exact;
      ends = c.in_ok-ends.ensures.items;
      end_room = let e = c.in_ok-ends.ensures.exact in omega (arith, e);
      crew = c.in_ok-crew.ensures (meanings_of c.args.branches.now) c.in_ok-chains.ensures;
    }
