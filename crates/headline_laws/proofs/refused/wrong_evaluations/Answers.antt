use Rattle.headline_laws.proofs.Evaluating.{halted_refused, joined_refused, lost_refused, open_refused, swapped_refused}
use Rattle.headline_laws.proofs.refused.wrong_evaluations.Goals as goal

pub returns : goal.returns
returns c = record { is_swapped = swapped_refused; is_lost = lost_refused; is_joined = joined_refused; is_halted = halted_refused; is_open = open_refused }
