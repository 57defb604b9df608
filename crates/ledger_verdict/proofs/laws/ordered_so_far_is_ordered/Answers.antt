use Rattle.ledger_verdict.proofs.Settled.{ordered_so_far_is_ordered}
use Rattle.ledger_verdict.proofs.laws.ordered_so_far_is_ordered.Goals as goal

pub returns : goal.returns
returns c = ordered_so_far_is_ordered
