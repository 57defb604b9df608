use Rattle.topic_hub.proofs.Follows.{empty_has_a_cause, waiting_has_a_cause}
use Rattle.topic_hub.proofs.laws.answers_have_causes.Goals as goal

pub returns-clause-waiting : goal.returns-clause-waiting
returns-clause-waiting c = waiting_has_a_cause

pub returns-clause-none : goal.returns-clause-none
returns-clause-none c = empty_has_a_cause
