use Rattle.ledger_books.proofs.Keys.{has_final}
use Rattle.ledger_books.proofs.books.is_final.Goals as goal

pub returns : goal.returns
returns c = has_final c.args.index.now c.args.past.now c.requires c.args.row c.has.result c.has.ensures
