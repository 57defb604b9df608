use Rattle.std.proofs.Common.{rules}
use Rattle.interrupt_ctx.proofs.Keeping.{splits}
use Rattle.interrupt_ctx.proofs.board.BoardSeat.split.Goals as goal

pub split_seat-seat-requires : goal.split_seat-seat-requires
split_seat-seat-requires c = (search rules, search rules, splits _ _ _ (search rules) c.self.invariant.1)
