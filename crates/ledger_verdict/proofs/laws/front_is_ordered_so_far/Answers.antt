use Rattle.ledger_verdict.proofs.Fronts.{front_is_ordered_so_far}
use Rattle.ledger_verdict.proofs.laws.front_is_ordered_so_far.Goals as goal

pub returns : goal.returns
returns c = front_is_ordered_so_far
