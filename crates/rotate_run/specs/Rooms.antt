-- The room of a rotation.
use Rattle.std.specs.Prelude.{◌≡◌, ◌-◌, ◌^◌, ◌<◌, [], length, vec_capacity}
use Rattle.res_ledger.specs.declared.event.StreamNo.TheVariants.{Inner}
use Rattle.row_seat.specs.PlainSeats.{shown, Sits}
use Rattle.row_seat.specs.Views.{start}
use Rattle.scope_tree.specs.Visible.{row_room, scope_room}
use Rattle.rotate_run.specs.declared.room.Room.{Room}

-- a fresh seat of stream 0 at its table, with a row and a scope for the file that is read and for each file, and room for all events, for one end and for some bytes
pub record IsRoom {P : Type 0} (room : Room P) : Type 0 where
  pub seat : shown room.seat ≡ start (Inner 0) 1025 4099 (2 ^ 32 - 1)
  pub sits : Sits room.seat room.table
  pub scopes : scope_room room.scopes ≡ 1025
  pub rows : row_room room.scopes ≡ 1025
  pub none : room.ends.items ≡ []
  pub capacity : vec_capacity room.ends ≡ 1
  pub some : 0 < length room.buffer.items
