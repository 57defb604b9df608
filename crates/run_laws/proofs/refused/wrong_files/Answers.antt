use Rattle.run_laws.proofs.Refusing.{third_too_early_refused, another_number_refused}
use Rattle.run_laws.proofs.refused.wrong_files.Goals as goal

pub returns : goal.returns
returns c = record {
  is_third_too_early = third_too_early_refused;
  is_another_number = another_number_refused;
}
