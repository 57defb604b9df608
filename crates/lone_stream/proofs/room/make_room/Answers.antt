-- The room is that of a node with one place and no scope.
use Rattle.std.proofs.Common.{arith, ap, ◌∙◌}
use Rattle.row_seat.specs.Views.{start}
use Rattle.lone_stream.proofs.StreamRuns.{one_row}
use Rattle.lone_stream.proofs.room.make_room.Goals as goal

pub returns-clause-room : goal.returns-clause-room
returns-clause-room g c = λ n places scopes. record {
  seat = c.in_ok-seat.ensures.0 ∙ one_row c.args.who n places scopes;
  scopes = omega (arith, c.in_ok-scopes.ensures.scopes, scopes);
  rows = omega (arith, c.in_ok-scopes.ensures.rows, places);
}

pub returns-clause-sits : goal.returns-clause-sits
returns-clause-sits g c = c.in_ok-seat.ensures.1
