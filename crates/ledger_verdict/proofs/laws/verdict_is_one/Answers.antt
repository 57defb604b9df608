use Rattle.ledger_verdict.proofs.Single.{verdict_is_one}
use Rattle.ledger_verdict.proofs.Verdicts.{there_is_one}
use Rattle.ledger_verdict.proofs.laws.verdict_is_one.Goals as goal

pub returns : goal.returns
returns c = record { some = there_is_one; one = verdict_is_one }
