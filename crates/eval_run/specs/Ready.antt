-- What an evaluation makes before its device.
use Rattle.std.specs.Prelude.{◌≡◌, ℕ, ◌<◌, ◌≤◌, List, [], length, None, vec_capacity}
use Rattle.lone_stream.specs.Rooms.{IsRoomFor}
use Rattle.par_eval.specs.Dealers.{IsTeam}
use Rattle.par_eval.specs.Lanes.{LaneHubs}
use Rattle.pull_nodes.specs.declared.node.Node.{Node}
use Rattle.pull_nodes.specs.declared.node.Node.TheVariants.{Read, Through', Weak'}
use Rattle.pull_nodes.specs.declared.pipe.Pipe.TheVariants as pipe
use Rattle.res_ledger.specs.declared.event.StreamNo.TheVariants.{Inner}
use Rattle.row_seat.specs.PlainSeats.{shown, Sits}
use Rattle.eval_run.specs.declared.lent.Staff.{Staff}
use Rattle.eval_run.specs.declared.ready.Ready.{Ready}

-- place 0 is opened and read, and its lines are given
abbrev pub IsLinesNode : Node → Type 0
IsLinesNode n = (b : _) × (c : _) × (n ≡ Weak' 0 b (Through' c (Read 0) pipe.Lines))

-- so many new hands, a dealer of theirs that dealt nothing, and room for them
pub record IsStaffed {W : Type 0} (jobs : ℕ) (hubs : List LaneHubs) (staff : Staff W) : Type 0 where
  pub team : IsTeam jobs hubs staff.dealer.lanes staff.hands
  pub some : 0 < jobs
  pub out : staff.dealer.out ≡ 0
  pub ended : staff.dealer.ended ≡ None
  pub empty : staff.room.items ≡ []
  pub capacity : length staff.hands ≤ vec_capacity staff.room

-- the node of the lines, room for it at a table, room for its device and its end, and a staff of so many hands
pub record IsReady {P : Type 0} (jobs : ℕ) (ready : Ready P) : Type 0 where
  pub node : IsLinesNode ready.node
  pub room : IsRoomFor shown (Inner 0) ready.node ready.room
  pub sits : Sits ready.room.seat ready.table
  pub devices : ready.devices.items ≡ []
  pub devices_fit : vec_capacity ready.devices ≡ 1
  pub ends : ready.ends.items ≡ []
  pub ends_fit : vec_capacity ready.ends ≡ 1
  pub staff : IsStaffed jobs ready.lanes ready.staff
