use Rattle.ledger_books.proofs.Placed.{at_among}
use Rattle.ledger_books.proofs.Canceling.{some_exactly}
use Rattle.ledger_books.proofs.leases.is_canceled.Goals as goal

pub returns : goal.returns
returns c = some_exactly _ c.canceled.result c.is_some.result (λ t n. (t.1, (t.2, (n.0, at_among c.args.past.now t.0 n.0 n.1, n.2, n.3)))) c.canceled.ensures c.is_some.ensures
