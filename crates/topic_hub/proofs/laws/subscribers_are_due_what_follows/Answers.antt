use Rattle.topic_hub.proofs.Follows.{end_is_last, later_are_due}
use Rattle.topic_hub.proofs.laws.subscribers_are_due_what_follows.Goals as goal

pub returns-clause-later : goal.returns-clause-later
returns-clause-later c = later_are_due

pub returns-clause-last : goal.returns-clause-last
returns-clause-last c = end_is_last
