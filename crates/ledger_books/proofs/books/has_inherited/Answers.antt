use Rattle.std.proofs.Common.{sym, ◌∙◌}
use Rattle.std.proofs.lemmas.Bool.{false≢true}
use Rattle.ledger_books.proofs.Following.{nothing_so}
use Rattle.ledger_books.proofs.Placed.{at_among}
use Rattle.ledger_books.proofs.Covering.{covers_of, covers_to}
use Rattle.ledger_books.proofs.Untiling.{covers_noted}
use Rattle.ledger_books.proofs.books.has_inherited.Goals as goal

pub returns-in_default : goal.returns-in_default
returns-in_default c = nothing_so (λ m.
    let d = covers_to c.args.past.now c.args.stream c.args.row m.0 m.1 in
    c.in_default.ensures (m.0, d.1, (d.2.0, at_among c.args.past.now d.0 d.2.0 d.2.1, d.2.2, d.2.3)))

pub returns-then-not-covers : goal.returns-then-not-covers
returns-then-not-covers c = nothing_so (λ m. false≢true (sym c.if-not-covers.true ∙ (c.covers.ensures c.args.stream c.in-Some.ensures).1
    (covers_noted c.args.past.now c.requires.legal c.in-Some.place c.args.stream c.in-Some.scope c.args.row c.in-Some.lessor m.0 c.in-Some.ensures m.1)))

pub returns : goal.returns
returns c = (
  (λ h. (c.in-Some.lessor, covers_of c.args.past.now c.in-Some.place c.args.stream c.in-Some.scope c.args.row c.in-Some.lessor c.in-Some.ensures ((c.covers.ensures c.args.stream c.in-Some.ensures).0 c.if-not-covers.false), c.is_canceled_by.ensures.0 h)),
  (λ m. c.is_canceled_by.ensures.1 m.2),
)
