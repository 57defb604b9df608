use Rattle.std.proofs.Common.{rules, ◌<◌, Some, sym, subst, ◌∙◌}
use Rattle.interrupt_ctx.specs.Ends.{BoardSeen, SeatSeen}
use Rattle.interrupt_ctx.specs.Steps.{SetsOrSees}
use Rattle.interrupt_ctx.specs.Views.{IsOwn}
use Rattle.interrupt_ctx.proofs.Holding.{found_told, stood}
use Rattle.interrupt_ctx.proofs.Keeping.{sets}
use Rattle.interrupt_ctx.proofs.Words.{word_of-injective}
use Rattle.interrupt_ctx.proofs.board.BoardSeat.set.Goals as goal

pub compare_exchange-word-requires : goal.compare_exchange-word-requires
compare_exchange-word-requires c =
    let here : c.args.context < c.board.inside.table.words = subst (λ (b : BoardSeen). c.args.context < b.contexts) (sym c.board.view_is) c.requires.context in
    (search rules, search rules, sets _ _ _ _ _ c.args.stop _ c.code.ensures c.self.invariant.1 (subst (λ n. c.args.context < n) (sym c.board.invariant.0) here))

pub returns-clause-stood : goal.returns-clause-stood
returns-clause-stood c =
    let e = c.compare_exchange-word.ensures in let t = e.2.1 in let me = c.self.inside.seat.me in let new = c.compare_exchange-word.new.seat in let i = c.args.context in
    let same = word_of-injective t.0 c.stop_of.result (sym t.1.is ∙ c.stop_of.ensures) in
    stood c.is_none.result c.stop_of.result _ c.is_none.ensures (λ there is. (
      there,
      found_told c.args.self.now c.self.inside.seat.table_id new.table_id me.0 new.me.0 i there c.self.view_is e.0 (subst (λ found. SetsOrSees me.0 i c.code.result found new.me.0) (same ∙ is) t.2),
      subst (λ (s : SeatSeen). IsOwn s.view i (Some there)) c.self.view_is (subst (λ found. IsOwn me.0 i found) (same ∙ is) t.1.own),
    ))
