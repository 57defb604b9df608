use Rattle.std.proofs.Common.{subst, take, drop}
use Rattle.std.specs.Prelude.{MatchOption}
use Rattle.ledger_verdict.specs.Verdict.{IsOrderedSoFar}
use Rattle.ledger_audit.specs.Orders.{IsFirstDisordered}
use Rattle.ledger_audit.proofs.Fronts.{parts}
use Rattle.ledger_audit.proofs.Deciding.{broken_legal, broken_ordered, front_is_legal}
use Rattle.ledger_audit.proofs.judge.of_illegal.Goals as goal

pub returns-in-Some : goal.returns-in-Some
returns-in-Some c =
    let L = c.args.events.now in
    let i = c.args.place in
    let F = take i L in
    broken_ordered L F (drop i L) (parts L i) (front_is_legal L i c.requires) c.in-Some.place
    (subst (λ o. MatchOption o (IsOrderedSoFar F) (IsFirstDisordered F)) c.in-Some.is c.in_ok-place.ensures)

pub returns : goal.returns
returns c =
    let L = c.args.events.now in
    let i = c.args.place in
    let F = take i L in
    broken_legal L i c.requires (subst (λ o. MatchOption o (IsOrderedSoFar F) (IsFirstDisordered F)) c.in_default.is c.in_ok-place.ensures)

pub first_disordered-requires-clause-legal : goal.first_disordered-requires-clause-legal
first_disordered-requires-clause-legal c = front_is_legal c.args.events.now c.args.place c.requires
