-- There is room for the streams of a plan.
use Rattle.std.proofs.Common.{[], ◌+◌, ap, arith, subst, sym, true, ◌∙◌}
use Rattle.channel_bounded.specs.Ends.{HubSeen, ReceiverSeen}
use Rattle.join_report.specs.Reports.{IsReport}
use Rattle.join_tale.specs.Steps.{first_tale}
use Rattle.collector.proofs.collector.JoinRoom.new.Goals as goal

pub returns : goal.returns
returns g c =
    let p = c.args.plan.now in
    let r = c.in_ok-report.report in
    let e = c.in_ok-report.ensures in
    let q = c.in_ok-queues.ensures in
    let count = c.stream_limit-streams.ensures.value in
    let take = c.take.ensures.value in
    record {
      seated = c.in_ok-stops.ensures.seated;
      seat = c.in_ok-stops.ensures.seat;
      contexts = c.in_ok-stops.ensures.contexts ∙ ap (λ n. n + 1) count;
      receiver = c.in_ok-hub.ensures.receiver ∙ ap (λ (h : HubSeen). let y : ReceiverSeen = record { hub = h.id; got = []; made = []; closed = [] } in y) (sym c.in_ok-hub-2.ensures);
      queue = ap (λ (h : HubSeen). h.capacity) c.in_ok-hub-2.ensures ∙ (c.in_ok-hub.ensures.capacity ∙ c.queue.ensures.value);
      some = λ s. subst (λ n. IsReport p.take n first_tale r) count (subst (λ m. IsReport m c.stream_limit-streams.result first_tale r) take (e.some (λ z. s (sym take ∙ z))));
      none = λ z. subst (λ n. IsReport p.take n (record first_tale { ceased = true }) r) count (subst (λ m. IsReport m c.stream_limit-streams.result (record first_tale { ceased = true }) r) take (e.none (take ∙ z)));
      waiting = q.waiting.0;
      waiting_room = q.waiting.1;
      jobs = q.jobs.0;
      jobs_room = q.jobs.1 ∙ c.max_open.ensures.value;
      left = c.in_ok-left.ensures.items;
      left_room = let room = c.in_ok-left.ensures.capacity in omega (arith, room, count);
      parts = c.in_ok-parts.ensures;
    }
