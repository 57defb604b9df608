use Rattle.audit_run.proofs.Causes.{refusal_is_of_the_text, unread_is_counted, unwritten_is_counted, verdict_is_of_the_text}
use Rattle.audit_run.proofs.laws.ends_are_exact.Goals as goal

pub returns : goal.returns
returns c = record { unread = unread_is_counted; unwritten = unwritten_is_counted; refused = refusal_is_of_the_text; told = verdict_is_of_the_text }
