use Rattle.collector.proofs.collector.Collector.give_turns.Goals as goal

pub turns-init : goal.turns-init
turns-init g c p depot sink d0 s0 i = i

pub give_turn-requires : goal.give_turn-requires
give_turn-requires g c =
    let q = c.requires.collecting in
    let u = q.3 in
    record { collecting = (q.0, q.1, q.2, (u.0, u.1, c.turns.invariant q.0 q.1 q.2 u.0 u.1 u.2)) }

pub turns-preserved : goal.turns-preserved
turns-preserved g c p depot sink d0 s0 i = c.give_turn.ensures.collecting p depot sink d0 s0 (c.turns.invariant p depot sink d0 s0 i)

pub returns : goal.returns
returns g c = record { collecting = λ p depot sink d0 s0 i. c.turns.invariant p depot sink d0 s0 i }
