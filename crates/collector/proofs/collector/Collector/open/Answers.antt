-- The outer stream is pulled for the first time, unless no frame is wanted.
use Rattle.std.proofs.Common.{◌≡◌, ◌≢◌, ◌+◌, [], None, Some, ap, arith, length, subst, sym, ◌∙◌, ⊎_elim}
use Rattle.chunk_core.proofs.Members.{among_nil}
use Rattle.interrupt_ctx.specs.Ends.{SeatSeen}
use Rattle.join_report.specs.Stopping.{IsUnknown}
use Rattle.device_port.specs.Sink.{SinkTold}
use Rattle.pull_turns.specs.Piping.{standing}
use Rattle.collector.specs.Collecting.{IsCollecting, between}
use Rattle.collector.specs.Members.{members}
use Rattle.collector.proofs.Fresh.{take_some}
use Rattle.collector.proofs.FreshStands.{fresh_stands}
use Rattle.collector.proofs.collector.Collector.open.Goals as goal

-- a sink of which nothing is told
abbrev blank_sink : SinkTold
blank_sink = record { written = None; faults = 0 }

pub want_none-requires-clause-none : goal.want_none-requires-clause-none
want_none-requires-clause-none g c = sym c.take.ensures.value ∙ c.wants_none.ensures.none c.if-wants_none.true

pub draw-requires-clause-waits : goal.draw-requires-clause-waits
draw-requires-clause-waits g c = let ws = ap (λ xs. length xs) c.requires.fresh.room.waiting in omega (arith, ws)

pub draw-requires-clause-few : goal.draw-requires-clause-few
draw-requires-clause-few g c = let js = ap (λ xs. length xs) c.requires.fresh.room.jobs in let ws = ap (λ xs. length xs) c.requires.fresh.room.waiting in omega (arith, js, ws)

pub draw-requires-clause-outer : goal.draw-requires-clause-outer
draw-requires-clause-outer g c = c.requires.fresh.outer

pub draw-requires-clause-first : goal.draw-requires-clause-first
draw-requires-clause-first g c none = c.requires.fresh.next

pub draw-requires-clause-unknown : goal.draw-requires-clause-unknown
draw-requires-clause-unknown g c = subst (λ (s : SeatSeen). IsUnknown s.view 0) (sym c.requires.fresh.room.seat) (λ w known. ⊎_elim (λ m. among_nil m) (λ m. among_nil m) known)

pub draw-requires-clause-collecting : goal.draw-requires-clause-collecting
draw-requires-clause-collecting g c =
    let M = members g.S.RowSeat.view g.V.Device.told g.S.RowSeat.fits g.F.PipeState.values (standing g.F.Feed.stands g.F.Feed.comes) in
    let some = subst (λ o. o ≢ Some 0) c.take.ensures.value (take_some c.take.result (c.wants_none.ensures.some c.if-wants_none.false)) in
    let old = g.D.Depot.told c.args.depot.now in
    (blank_sink, (old, blank_sink, fresh_stands M c.args.plan.now old blank_sink c.args.desk.now c.args.self.now c.requires.fresh (omega arith) some))

pub returns-then-wants_none : goal.returns-then-wants_none
returns-then-wants_none g c = record { collecting = λ s0 few. c.want_none.ensures.collecting (g.D.Depot.told c.args.depot.now) s0 few }

pub returns-else-wants_none : goal.returns-else-wants_none
returns-else-wants_none g c = record {
  collecting = λ s0 few.
      let M = members g.S.RowSeat.view g.V.Device.told g.S.RowSeat.fits g.F.PipeState.values (standing g.F.Feed.stands g.F.Feed.comes) in
      let p = c.args.plan.now in
      let fr = c.requires.fresh in
      let some = subst (λ o. o ≢ Some 0) c.take.ensures.value (take_some c.take.result (c.wants_none.ensures.some c.if-wants_none.false)) in
      let old = g.D.Depot.told c.args.depot.now in
      subst (λ n. IsCollecting M p old s0 (between n (g.D.Depot.told c.draw.new.depot) s0 c.draw.new.desk c.draw.new.self)) (ap (λ ws. 1 + length ws) fr.room.waiting)
      (c.draw.ensures.collecting s0 old s0 (fresh_stands M p old s0 c.args.desk.now c.args.self.now fr few some));
}
