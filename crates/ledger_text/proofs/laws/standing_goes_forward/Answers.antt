use Rattle.ledger_text.proofs.Forward.{goes_forward, never_goes_back, standing_is_one}
use Rattle.ledger_text.proofs.Beginnings.{begins_open}
use Rattle.res_ledger.proofs.Standings.{standing_is_exact}
use Rattle.ledger_text.proofs.laws.standing_goes_forward.Goals as goal

pub returns : goal.returns
returns c = record { begins = begins_open; forward = goes_forward; never_back = never_goes_back; one = standing_is_one; exact = standing_is_exact }
