-- The room is that of the node.
use Rattle.eval_run.proofs.LinesFile.{lines_places, lines_scopes}
use Rattle.eval_run.proofs.ready.make_ready.Goals as goal

pub returns-clause-ready : goal.returns-clause-ready
returns-clause-ready g c = record {
  node = c.in_ok-node.ensures;
  room = c.in_ok-room.ensures.room c.in_ok-node.node (lines_places c.in_ok-node.node c.in_ok-node.ensures) (lines_scopes c.in_ok-node.node c.in_ok-node.ensures);
  sits = c.in_ok-room.ensures.sits;
  devices = c.in_ok-devices.ensures.items;
  devices_fit = c.in_ok-devices.ensures.exact;
  ends = c.in_ok-ends.ensures.items;
  ends_fit = c.in_ok-ends.ensures.exact;
  staff = c.in_ok-lanes.ensures;
}
