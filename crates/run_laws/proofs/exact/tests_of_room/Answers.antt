use Rattle.run_laws.specs.Laws.{work_of}
use Rattle.run_laws.proofs.RoomTested.{begin_in_room_so, behind_so, stopped_all_so, was_open_so}
use Rattle.run_laws.proofs.TurnsTested.{last_turn_so, turn_so, was_in_so}
use Rattle.run_laws.proofs.exact.tests_of_room.Goals as goal

pub returns : goal.returns
returns c = record {
  of_turn = turn_so;
  of_last_turn = last_turn_so;
  of_in = was_in_so;
  of_behind = behind_so;
  of_stopped_all = λ o ss. stopped_all_so (work_of o ss);
  of_open = λ o ss. was_open_so (work_of o ss);
  of_room = λ o ss. begin_in_room_so o (work_of o ss);
}
