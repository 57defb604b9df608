use Rattle.ledger_books.proofs.Covering.{covers_of}
use Rattle.ledger_audit.proofs.marks.is_lent_at.Goals as goal

pub returns : goal.returns
returns c = λ h.
    let l = c.in-Some-lease_at.ensures in
    let j = c.in-Some-lease_at.field-0-1 in
    (j, (c.in-Some-lease_at.by, covers_of c.args.past.now c.in-Some.place j c.in-Some-lease_at.scope c.args.row c.in-Some-lease_at.by l ((c.covers.ensures j l).0 h)))
