use Rattle.channel_bounded.proofs.Causes.{full_has_a_cause, none_has_a_cause}
use Rattle.channel_bounded.proofs.laws.answers_have_causes.Goals as goal

pub returns-clause-full : goal.returns-clause-full
returns-clause-full c = full_has_a_cause

pub returns-clause-none : goal.returns-clause-none
returns-clause-none c = none_has_a_cause
