use Rattle.std.proofs.Common.{◌≡◌}
use Rattle.worked_threads.proofs.boards.finds_each.Given as goal

abbrev pub invariant-loop-context : goal.invariant-loop-context
invariant-loop-context g l = (l.seat.board ≡ l.fn.seat.board) × (l.seat.view.first ≡ l.fn.seat.view.first)
