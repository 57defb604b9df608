-- The next result is taken, or the hands go on.
use Rattle.eval_hands.proofs.Goings.{crew_take, crew_waits}
use Rattle.eval_hands.proofs.crew.Crew.take.Goals as goal

pub returns-in-Some-take : goal.returns-in-Some-take
returns-in-Some-take g c ds ws k =
    let was = c.tries.invariant ds ws k in
    crew_take g.W.Work.result_of c.args.place.now.work.now c.args.place.now.lanes.now c.tries.self (record { dealer = c.take.new.self; hands = c.tries.self.hands }) ds ws was c.in-Some-take.worked c.in-Some-take.ensures.some c.in-Some-take.ensures.taken c.in-Some-take.ensures.at was.hired

pub tries-preserved : goal.tries-preserved
tries-preserved g c ds ws k = crew_waits g.W.Work.result_of c.args.place.now.work.now c.args.place.now.lanes.now c.tries.self (record { dealer = c.take.new.self; hands = c.turn_all.new.hands }) ds ws (c.tries.invariant ds ws k) c.in-None-take.ensures.none c.in-None-take.ensures.at c.turn_all.ensures
