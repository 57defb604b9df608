use Rattle.std.proofs.Common.{refl}
use Rattle.ledger_laws.specs.Worked.{stream_goes_on_after_its_cancel}
use Rattle.ledger_laws.proofs.Right.{right}
use Rattle.ledger_laws.proofs.worked.ledgers_let_through.Goals as goal

pub returns : goal.returns
returns c = right stream_goes_on_after_its_cancel refl refl refl
