use Rattle.std.proofs.Common.{◌≡◌, ◌≤◌, List, ◌++◌, length, vec_capacity}
use Rattle.std.specs.VecDeque.{deque_len}
use Rattle.tee_pump.specs.Making.{HasSplit}
use Rattle.tee_pump.proofs.Crewing.{AreBranchesFirst}
use Rattle.tee_pump.proofs.crew.make_branches.Given as goal

-- the first branches were made
abbrev pub invariant-loop-pipe : goal.invariant-loop-pipe
invariant-loop-pipe g l = record {
  left : (taken : List g.row.F.Denot) × (taken ++ l.left.items ≡ l.fn.pipes.items) × (length taken ≡ length l.made.items);
  room : length l.fn.pipes.items ≤ vec_capacity l.made;
  split : HasSplit (record { topic = l.shared.topic; hub = l.shared.hub; board = l.shared.board }) (length l.fn.pipes.items) (length l.made.items) l.ends.publisher l.ends.receiver l.ends.seat;
  branches : AreBranchesFirst g.F.Feed.stands g.F.Feed.comes (record { topic = l.shared.topic; hub = l.shared.hub; board = l.shared.board }) l.fn.pipes.items l.made.items;
}

abbrev pub decreases-loop-pipe : goal.decreases-loop-pipe
decreases-loop-pipe g l = deque_len l.left
