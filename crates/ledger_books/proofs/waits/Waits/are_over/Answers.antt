use Rattle.ledger_books.proofs.Seating.{over_now}
use Rattle.ledger_books.proofs.waits.Waits.are_over.Goals as goal

pub returns : goal.returns
returns c = λ h. over_now c.args.self.now c.args.past.now (c.requires.waits c.if-not-self.false) c.requires.legal c.args.at c.args.row c.args.of c.args.owner c.requires.row (c.is_free_within.ensures c.if-not-is_free_within.false) (c.is_free_beside.ensures c.if-not-is_free_beside.false)
