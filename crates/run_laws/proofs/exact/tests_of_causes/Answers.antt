use Rattle.run_laws.specs.Laws.{work_of}
use Rattle.run_laws.proofs.EndsTested.{may_stop_so, silenced_so, silence_stops_so, fault_stops_so, closes_before_so, end_stops_so, end_stops_in_time_so, cause_so}
use Rattle.run_laws.proofs.exact.tests_of_causes.Goals as goal

pub returns : goal.returns
returns c = record {
  of_may_stop = λ o ss. may_stop_so (work_of o ss);
  of_silenced = λ o ss. silenced_so (work_of o ss);
  of_silence = λ o ss. silence_stops_so (work_of o ss);
  of_fault = λ o ss. fault_stops_so (work_of o ss);
  of_before = closes_before_so;
  of_end = λ o ss. end_stops_so (work_of o ss);
  of_time = λ o ss. end_stops_in_time_so (work_of o ss);
  of_cause = λ o ss. cause_so (work_of o ss);
}
