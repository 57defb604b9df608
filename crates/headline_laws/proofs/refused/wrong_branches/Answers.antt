use Rattle.headline_laws.proofs.Teeing.{as_errored_refused, halted_refused, open_refused, unmeant_refused, without_end_refused}
use Rattle.headline_laws.proofs.refused.wrong_branches.Goals as goal

pub returns : goal.returns
returns c = record { is_open = open_refused; is_without_end = without_end_refused; is_halted = halted_refused; is_errored = as_errored_refused; is_unmeant = unmeant_refused }
