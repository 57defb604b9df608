use Rattle.std.proofs.lemmas.Bool.{false≢true}
use Rattle.ledger_books.proofs.Placed.{at_among}
use Rattle.ledger_books.proofs.Following.{option_some}
use Rattle.ledger_books.proofs.books.may_open.Goals as goal

pub returns-then-is_some : goal.returns-then-is_some
returns-then-is_some c = ((λ h. absurd (false≢true h)), (λ p. absurd (p.1 (option_some _ c.opened.result c.is_some.result (λ t n. (t.1, (n.0, at_among c.args.past.now t.0 n.0 n.1, n.2, n.3))) c.opened.ensures c.is_some.ensures c.if-is_some.true))))
