-- What a tee makes before its device.
use Rattle.std.specs.Prelude.{◌≡◌, ◌+◌, ◌≤◌, List, [], length, vec_capacity}
use Rattle.chain_pipes.specs.Chains.{Comes, StandsFor}
use Rattle.lone_stream.specs.Rooms.{IsFileNode, IsRoomFor}
use Rattle.pipeline_desc.specs.declared.step.Step.{Step}
use Rattle.res_ledger.specs.declared.event.StreamNo.TheVariants.{Outer}
use Rattle.row_seat.specs.PlainSeats.{shown, Sits}
use Rattle.tee_run.specs.Chains.{meanings_of}
use Rattle.tee_pump.specs.Making.{IsCrew}
use Rattle.tee_run.specs.declared.room.Ready.{Ready}

-- the node of a file, room for it at a table, for all ends and for its device, and a branch for the steps of each
pub record IsReadyForTee {P : Type 0} (branches : List (List Step)) (ready : Ready P) : Type 0 where
  pub node : IsFileNode ready.node
  pub room : IsRoomFor shown Outer ready.node ready.room
  pub sits : Sits ready.room.seat ready.table
  pub devices : ready.devices.items ≡ []
  pub capacity : vec_capacity ready.devices ≡ 1
  pub ends : ready.ends.items ≡ []
  pub end_room : length branches + 1 ≤ vec_capacity ready.ends
  pub crew : IsCrew StandsFor Comes (record { topic = ready.branches.shared.topic; hub = ready.branches.shared.hub; board = ready.branches.shared.board }) (meanings_of branches) ready.branches.crew
