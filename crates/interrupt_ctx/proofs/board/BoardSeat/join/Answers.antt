use Rattle.std.proofs.Common.{rules}
use Rattle.interrupt_ctx.proofs.Keeping.{joins, learns}
use Rattle.interrupt_ctx.proofs.board.BoardSeat.join.Goals as goal

pub join_seat-requires : goal.join_seat-requires
join_seat-requires c = (search rules, search rules, search rules, search rules, joins _ _ _ _ _ (search rules) c.self.invariant.1 c.other.invariant.1)

pub load-requires : goal.load-requires
load-requires c = (search rules, search rules, learns _ _ _ _ (search rules))
