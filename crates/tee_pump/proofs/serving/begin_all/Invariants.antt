use Rattle.std.proofs.Common.{◌≡◌, ◌≤◌, List, ◌++◌, length, vec_capacity}
use Rattle.std.specs.VecDeque.{deque_len}
use Rattle.chunk_core.specs.Feed.{Meaning}
use Rattle.tee_branches.specs.declared.branch.Branch.{Branch}
use Rattle.tee_pump.specs.Branches.{AreBranches, AreHiredFirst}
use Rattle.tee_pump.proofs.serving.begin_all.Given as goal

-- the first branches were begun
abbrev pub invariant-loop-branch : goal.invariant-loop-branch
invariant-loop-branch g l = record {
  left : (taken : List (Branch g.row.F.Denot)) × (taken ++ l.left.items ≡ l.fn.branches.items) × (length taken ≡ length l.hired.items);
  room : length l.fn.branches.items ≤ vec_capacity l.hired;
  hired : (ms : List Meaning) → AreBranches g.F.Feed.stands g.F.Feed.comes (record { topic = l.site.topic.now; hub = l.site.hub.now; board = l.site.board.now }) ms l.fn.branches.items → AreHiredFirst g.F.Feed.stands g.F.Feed.comes (record { topic = l.site.topic.now; hub = l.site.hub.now; board = l.site.board.now }) ms l.hired.items;
}

abbrev pub decreases-loop-branch : goal.decreases-loop-branch
decreases-loop-branch g l = deque_len l.left
