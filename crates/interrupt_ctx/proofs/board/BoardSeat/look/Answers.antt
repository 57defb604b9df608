use Rattle.std.proofs.Common.{rules}
use Rattle.interrupt_ctx.proofs.Holding.{look_root}
use Rattle.interrupt_ctx.proofs.Keeping.{looks_at_own, looks_at_root}
use Rattle.interrupt_ctx.proofs.board.BoardSeat.look.Goals as goal

pub load-requires : goal.load-requires
load-requires c = (search rules, search rules, looks_at_own _ _ _ _ _ c.self.invariant.1)

pub load-requires-2 : goal.load-requires-2
load-requires-2 c = (search rules, search rules, looks_at_root _ _ _ _ (search rules))

pub returns-clause-root : goal.returns-clause-root
returns-clause-root c =
    let own = c.load.ensures.2.1 in
    let root = c.load-2.ensures.2.1 in
    look_root c.args.self.now c.self.inside.seat.table_id c.self.inside.seat.me.0 c.load.new.seat.me.0 c.load-2.new.seat.me.0 _ own.0 root.0 c.self.view_is own.2 root.1.known root.2
