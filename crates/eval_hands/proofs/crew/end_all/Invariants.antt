use Rattle.std.proofs.Common.{◌≡◌, ◌<◌, List, length}
use Rattle.chunk_core.specs.declared.load.Load.{Load}
use Rattle.par_eval.specs.Dealers.{IsDealerAt, ends_sent}
use Rattle.par_eval.specs.declared.work.Worked.{Worked}
use Rattle.eval_hands.specs.Crews.{AreHired, AreUncollected, HasDealt}
use Rattle.eval_hands.proofs.crew.end_all.Given as goal

-- ends are missing
abbrev pub invariant-tries : goal.invariant-tries
invariant-tries g l =
    record {
      at : IsDealerAt l.place.lanes.now l.dealer.lanes;
      out : l.dealer.out ≡ 0;
      missing : ends_sent l.dealer.ended < length l.dealer.lanes;
      has : (ds : List Load) (ws : List Worked) → HasDealt l.fn.dealer.lanes ds ws → HasDealt l.dealer.lanes ds ws;
      open_lanes : AreUncollected l.dealer.lanes;
      hired : AreHired g.W.Work.result_of l.place.work.now l.place.lanes.now l.hands.items;
    }
