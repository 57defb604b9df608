use Rattle.join_tale.specs.Records.{bare}
use Rattle.join_tale.proofs.Stopping.{record_follows, wants_for}
use Rattle.join_tale.proofs.Undisturbed.{undisturbed_is_done}
use Rattle.join_tale.proofs.laws.records_follow.Goals as goal

pub returns-clause-follows : goal.returns-clause-follows
returns-clause-follows c o ss t rec i settled r = record_follows o ss t rec i r settled

pub returns-clause-done : goal.returns-clause-done
returns-clause-done c o ss = undisturbed_is_done (bare o ss)

pub returns-clause-wanting : goal.returns-clause-wanting
returns-clause-wanting c o ss t rec i r m = wants_for o ss t rec i r m
