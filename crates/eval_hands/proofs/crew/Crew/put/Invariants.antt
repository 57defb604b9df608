use Rattle.std.proofs.Common.{◌≡◌, List}
use Rattle.chunk_core.specs.declared.load.Load.{Load}
use Rattle.par_eval.specs.declared.work.Worked.{Worked}
use Rattle.eval_hands.specs.Crews.{IsCrew}
use Rattle.eval_hands.proofs.crew.Crew.put.Given as goal

-- what it has dealt and taken it has still
abbrev pub invariant-tries : goal.invariant-tries
invariant-tries g l = (l.load ≡ l.fn.load) × ((ds : List Load) (ws : List Worked) → IsCrew g.W.Work.result_of l.place.work.now l.place.lanes.now l.fn.self ds ws → IsCrew g.W.Work.result_of l.place.work.now l.place.lanes.now l.self ds ws)
