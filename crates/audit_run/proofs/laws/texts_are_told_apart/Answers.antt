use Rattle.audit_run.proofs.Apart.{no_cause, one_cause}
use Rattle.audit_run.proofs.laws.texts_are_told_apart.Goals as goal

pub returns : goal.returns
returns c = record { refused = one_cause; taken = no_cause }
