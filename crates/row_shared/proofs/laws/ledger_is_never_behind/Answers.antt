use Rattle.row_shared.proofs.Ledgers.{never_behind}
use Rattle.row_shared.proofs.laws.ledger_is_never_behind.Goals as goal

pub returns : goal.returns
returns g c = never_behind
