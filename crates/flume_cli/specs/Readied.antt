-- What is made before a case is run.
use Rattle.std.specs.Prelude.{◌≡◌, [], Some}
use Rattle.device_port.specs.Memory.{sink_told}
use Rattle.gen_case.specs.Plan.{plan_of_case}
use Rattle.gen_case.specs.Runs.{depot_of}
use Rattle.gen_case.specs.SureTold.{sure_told}
use Rattle.gen_case.specs.declared.case.Case.{Case}
use Rattle.flume_cli.specs.declared.generated.Ready.{Ready}

-- the plan of the case, its files, and a sink that was written nothing
pub record IsReady (case : Case) (r : Ready) : Type 0 where
  pub plan : r.plan ≡ plan_of_case case
  pub depot : sure_told r.depot ≡ depot_of case
  pub out : sink_told r.out ≡ record { written = Some []; faults = 0 }
