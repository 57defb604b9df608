use Rattle.ledger_text.proofs.Closing.{closed_has_covering_close, covering_close_is_one, finals_follow_covering_close}
use Rattle.ledger_text.proofs.laws.covering_close_is_first.Goals as goal

pub returns : goal.returns
returns c = record { some = closed_has_covering_close; one = covering_close_is_one; before_finals = finals_follow_covering_close }
