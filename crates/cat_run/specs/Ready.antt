-- What cat makes before its device.
use Rattle.std.specs.Prelude.{◌≡◌, [], vec_capacity}
use Rattle.res_ledger.specs.declared.event.StreamNo.TheVariants.{Inner}
use Rattle.row_seat.specs.PlainSeats.{shown, Sits}
use Rattle.lone_stream.specs.Rooms.{IsFileNode, IsRoomFor}
use Rattle.cat_run.specs.declared.cat.Ready.{Ready}

-- the node of a file, room for it at a table, for its end and for its device
pub record IsReadyForCat {P : Type 0} (ready : Ready P) : Type 0 where
  pub node : IsFileNode ready.node
  pub room : IsRoomFor shown (Inner 0) ready.node ready.room
  pub sits : Sits ready.room.seat ready.table
  pub ends : ready.ends.items ≡ []
  pub end_room : vec_capacity ready.ends ≡ 1
  pub devices : ready.devices.items ≡ []
  pub capacity : vec_capacity ready.devices ≡ 1
