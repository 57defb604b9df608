use Rattle.std.proofs.Common.{◌≡◌, IfSome, List, Some}
use Rattle.chunk_core.specs.declared.load.Load.{Load}
use Rattle.device_port.specs.Sink.{SinkTold}
use Rattle.par_eval.specs.declared.work.Worked.{Worked}
use Rattle.eval_run.specs.Pumping.{IsPumping}
use Rattle.eval_run.proofs.pump.take_rest.Given as goal

-- results were taken, and what stopped the printing before stops it still
abbrev pub invariant-rest : goal.invariant-rest
invariant-rest g l = record {
  rest : (first : SinkTold) (ds : List Load) (ws : List Worked) → IsPumping g.W.Work.result_of l.place.work.now l.place.lanes.now l.fn.crew first (g.K.Sink.told l.fn.out) ds ws l.fn.stop
      → (more : List Worked) × IsPumping g.W.Work.result_of l.place.work.now l.place.lanes.now l.crew first (g.K.Sink.told l.out) ds more l.left;
  kept : IfSome l.fn.stop (λ s. l.left ≡ Some s);
}
