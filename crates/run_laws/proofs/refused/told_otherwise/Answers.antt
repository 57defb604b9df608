use Rattle.run_laws.proofs.Refusing.{root_told_otherwise_refused, cancel_told_otherwise_refused}
use Rattle.run_laws.proofs.refused.told_otherwise.Goals as goal

pub returns : goal.returns
returns c = record {
  is_root_told_otherwise = root_told_otherwise_refused;
  is_cancel_told_otherwise = cancel_told_otherwise_refused;
}
