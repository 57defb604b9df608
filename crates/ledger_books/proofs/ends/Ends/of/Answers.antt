use Rattle.ledger_books.proofs.Ending.{foresees_none}
use Rattle.ledger_books.proofs.ends.Ends.of.Goals as goal

pub returns : goal.returns
returns c = foresees_none _ c.args.events.now c.in_ok-firsts.ensures c.in_ok-untils.ensures c.new.ensures
