use Rattle.row_seat.proofs.Standings.{word_tells}
use Rattle.row_seat.proofs.laws.ledger_is_never_behind.Goals as goal

pub returns : goal.returns
returns g c = λ rows room word slot log views rule r low. word_tells rule r low
