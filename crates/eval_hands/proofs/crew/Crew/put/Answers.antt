-- The load is dealt, or it comes back and nothing has changed.
use Rattle.std.proofs.Common.{[], ◌∷◌, ◌++◌, subst, ◌∙◌}
use Rattle.chunk_core.specs.declared.load.Load.{Load}
use Rattle.eval_hands.specs.Crews.{IsCrew}
use Rattle.eval_hands.proofs.Goings.{crew_put, crew_turned}
use Rattle.eval_hands.proofs.crew.Crew.put.Goals as goal

pub returns-in-Ok : goal.returns-in-Ok
returns-in-Ok g c ds ws k =
    let was = c.tries.invariant.1 ds ws k in
    subst (λ (l : Load). IsCrew g.W.Work.result_of c.args.place.now.work.now c.args.place.now.lanes.now (record { dealer = c.put.new.self; hands = c.tries.self.hands }) (ds ++ l ∷ []) ws) c.tries.invariant.0
    (crew_put g.W.Work.result_of c.args.place.now.work.now c.args.place.now.lanes.now c.tries.self (record { dealer = c.put.new.self; hands = c.tries.self.hands }) ds ws was c.tries.load c.in-Ok.ensures.puts c.in-Ok.ensures.dealt c.in-Ok.ensures.at was.hired)

pub tries-preserved : goal.tries-preserved
tries-preserved g c = (
  c.load_back-load.ensures c.tries.load c.in-Err.ensures.back ∙ c.tries.invariant.0,
  λ ds ws k. crew_turned g.W.Work.result_of c.args.place.now.work.now c.args.place.now.lanes.now c.tries.self (record { dealer = c.put.new.self; hands = c.turn_all.new.hands }) ds ws (c.tries.invariant.1 ds ws k) c.in-Err.ensures.unsent c.turn_all.ensures,
)
