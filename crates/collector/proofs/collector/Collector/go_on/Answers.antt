use Rattle.collector.proofs.collector.Collector.go_on.Goals as goal

pub give_turns-requires : goal.give_turns-requires
give_turns-requires g c =
    let q = c.requires.collecting in
    let u = q.1 in
    record { collecting = (c.args.plan.now, q.0, g.K.Sink.told c.receive_next.new.out, (u.0, u.1, c.receive_next.ensures.collecting q.0 u.0 u.1 u.2)) }
