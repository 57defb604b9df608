use Rattle.run_laws.specs.Laws.{work_of}
use Rattle.run_laws.proofs.ExitsTested.{any_run, exit_hidden_so, one_exit_so}
use Rattle.run_laws.proofs.exact.tests_of_exits.Goals as goal

pub returns : goal.returns
returns c = record {
  of_hidden = λ o ss. exit_hidden_so (work_of o ss);
  of_one_exit = λ o ss c v w e. one_exit_so (work_of o ss) c v w e (any_run o ss v w e.who);
}
