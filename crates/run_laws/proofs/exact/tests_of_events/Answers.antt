use Rattle.run_laws.specs.Laws.{work_of}
use Rattle.run_laws.proofs.Tested.{ours_so, leaving_so}
use Rattle.run_laws.proofs.exact.tests_of_events.Goals as goal

pub returns : goal.returns
returns c = record {
  of_ours = λ o ss. ours_so (work_of o ss);
  of_leaving = leaving_so;
}
