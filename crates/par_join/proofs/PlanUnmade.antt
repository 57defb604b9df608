-- A plan of which nothing was begun.
use Rattle.std.proofs.Common.{◌≡◌, [], None, refl, sym, subst}
use Rattle.device_port.specs.Depot.{DepotTold}
use Rattle.device_port.specs.Sink.{SinkTold}
use Rattle.pipeline_desc.specs.Meant.{PlanMeant}
use Rattle.plan_work.specs.Plans.{run_work}
use Rattle.par_join.specs.Plans.{RunsPlan}
use Rattle.cat_run.proofs.Unmade.{performs_nothing, unmade_outcome, wrote_none}

-- nothing was begun
pub plan_unmade : (p : PlanMeant) (old new : DepotTold) (so sn : SinkTold) → new ≡ old → sn ≡ so → RunsPlan p old new so sn unmade_outcome
plan_unmade p old new so sn e quiet =
    subst (λ x. RunsPlan p old x so sn unmade_outcome) (sym e) (record {
      lines = [];
      frames = [];
      cut = None;
      rest = [];
      broke = refl;
      performs = performs_nothing (run_work p []) old;
      wrote = wrote_none so sn quiet;
      begun = λ k. (refl, refl);
    })
