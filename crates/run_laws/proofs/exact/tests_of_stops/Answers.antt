use Rattle.run_laws.specs.Laws.{work_of}
use Rattle.run_laws.proofs.EndsTested.{last_so, stops_by_failure_so, stops_when_silenced_so, stops_by_end_so, stopped_so}
use Rattle.run_laws.proofs.exact.tests_of_stops.Goals as goal

pub returns : goal.returns
returns c = record {
  of_last = last_so;
  of_failure = stops_by_failure_so;
  of_silence = λ o ss. stops_when_silenced_so (work_of o ss);
  of_end = λ o ss. stops_by_end_so (work_of o ss);
  of_stopped = λ o ss. stopped_so (work_of o ss);
}
