use Rattle.std.proofs.Common.{refl}
use Rattle.ledger_books.proofs.books.are_final.Goals as goal

pub returns-then-are_over : goal.returns-then-are_over
returns-then-are_over c = ((λ h. c.are_over.ensures c.if-are_over.true), (λ f. refl))
