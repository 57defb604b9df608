-- The next message was got.
use Rattle.std.proofs.Common.{ap, sym, subst, ◌∙◌}
use Rattle.channel_bounded.specs.Ends.{HubSeen}
use Rattle.pull_turns.specs.Piping.{standing}
use Rattle.collector.specs.Collecting.{IsCollecting, between}
use Rattle.collector.specs.Members.{members}
use Rattle.collector.proofs.Queued.{has_got, may_receive}
use Rattle.collector.proofs.Turning.{had_received}
use Rattle.collector.proofs.collector.Collector.receive_next.Goals as goal

pub try_recv-requires-clause-fits : goal.try_recv-requires-clause-fits
try_recv-requires-clause-fits g c = c.requires.collecting.1.2.streams.hub_is ∙ ap (λ (h : HubSeen). h.id) (sym c.get.ensures)

pub try_recv-requires-clause-may : goal.try_recv-requires-clause-may
try_recv-requires-clause-may g c = may_receive c.args.self.now.receiver

pub receive-requires : goal.receive-requires
receive-requires g c =
    let q = c.requires.collecting in
    let u = q.1 in
    let first = c.in-Some.ensures.first in
    record { collecting = (q.0, c.args.self.now.receiver, has_got c.args.self.now.receiver c.try_recv.new.self c.in-Some.message c.in-Some.ensures.got first.0 first.1, (u.0, u.1, had_received c.try_recv.new.self u.2)) }

pub returns-in-Some : goal.returns-in-Some
returns-in-Some g c = record {
  collecting = λ depot d0 s0 i.
      let first = c.in-Some.ensures.first in
      c.receive.ensures.collecting depot c.args.self.now.receiver (has_got c.args.self.now.receiver c.try_recv.new.self c.in-Some.message c.in-Some.ensures.got first.0 first.1) d0 s0 (had_received c.try_recv.new.self i);
}

pub returns-in-None : goal.returns-in-None
returns-in-None g c = record {
  collecting = λ depot d0 s0 i.
      subst (λ r. IsCollecting (members g.S.RowSeat.view g.V.Device.told g.S.RowSeat.fits g.F.PipeState.values (standing g.F.Feed.stands g.F.Feed.comes)) c.args.plan.now d0 s0 (between 1 depot (g.K.Sink.told c.args.out.now) c.args.desk.now (record c.args.self.now { receiver = r }))) (sym c.in-None.ensures.same) i;
}
