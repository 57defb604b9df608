use Rattle.std.proofs.Common.{refl}
use Rattle.ledger_books.proofs.scopes.lies_within.Goals as goal

pub returns-then-lead : goal.returns-then-lead
returns-then-lead c = ((λ h. c.lead.ensures c.if-lead.true), (λ w. refl))
