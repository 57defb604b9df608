use Rattle.run_laws.specs.Laws.{work_of}
use Rattle.run_laws.proofs.EndsTested.{shown_so, begun_so, caused_so, memory_known_so}
use Rattle.run_laws.proofs.RoomTested.{memory_told_so}
use Rattle.run_laws.proofs.exact.tests_of_ends.Goals as goal

pub returns : goal.returns
returns c = record {
  of_shown = shown_so;
  of_begun = begun_so;
  of_caused = λ o ss. caused_so (work_of o ss);
  of_memory_known = memory_known_so;
  of_memory_told = memory_told_so;
}
