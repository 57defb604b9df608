use Rattle.std.proofs.lemmas.Bool.{false≢true}
use Rattle.ledger_books.proofs.Placed.{at_among}
use Rattle.ledger_books.proofs.Following.{option_some}
use Rattle.ledger_books.proofs.books.may_acquire.Goals as goal

pub returns-then-is_some : goal.returns-then-is_some
returns-then-is_some c = ((λ h. absurd (false≢true h)), (λ p. absurd (p.0 (option_some _ c.acquired.result c.is_some.result (λ t n. (t.1, t.2, (n.0, at_among c.args.past.now t.0 n.0 n.1, n.2, n.3))) c.acquired.ensures c.is_some.ensures c.if-is_some.true))))
