use Rattle.std.proofs.Common.{◌≡◌}
use Rattle.worked_threads.proofs.boards.race.Given as goal

abbrev pub invariant-loop-k : goal.invariant-loop-k
invariant-loop-k l = l.seat.board ≡ l.board.id
