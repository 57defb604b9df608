use Rattle.std.proofs.Common.{◌≡◌}
use Rattle.worked_threads.proofs.boards.one_was_first.Given as goal

abbrev pub invariant-loop-k : goal.invariant-loop-k
invariant-loop-k g l = l.seat.board ≡ l.board.id
