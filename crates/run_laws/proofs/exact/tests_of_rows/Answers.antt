use Rattle.run_laws.specs.Laws.{work_of}
use Rattle.run_laws.proofs.RowsTested.{shut_so, untouched_so, left_alone_so, never_fall_so}
use Rattle.run_laws.proofs.exact.tests_of_rows.Goals as goal

pub returns : goal.returns
returns c = record {
  of_shut = shut_so;
  of_untouched = untouched_so;
  of_left_alone = λ o ss. left_alone_so (work_of o ss);
  of_frames = never_fall_so;
}
