use Rattle.std.proofs.Common.{[], refl, sym, subst, ◌∙◌, append-nil}
use Rattle.std.proofs.lemmas.Bool.{false≢true}
use Rattle.std.specs.Prelude.{MatchOption}
use Rattle.ledger_verdict.specs.Verdict.{IsOrderedSoFar}
use Rattle.ledger_audit.specs.Orders.{IsFirstDisordered}
use Rattle.ledger_audit.proofs.Deciding.{broken_ordered, clean}
use Rattle.ledger_audit.proofs.judge.of_legal.Goals as goal

pub returns-in-Some : goal.returns-in-Some
returns-in-Some c =
    let L = c.args.events.now in
    broken_ordered L L [] (sym (append-nil L)) c.requires c.in-Some.place
    (subst (λ o. MatchOption o (IsOrderedSoFar L) (IsFirstDisordered L)) c.in-Some.is c.in_ok-place.ensures)

pub returns : goal.returns
returns c =
    let L = c.args.events.now in
    clean L c.requires (subst (λ o. MatchOption o (IsOrderedSoFar L) (IsFirstDisordered L)) c.in_default.is c.in_ok-place.ensures) (c.is_complete.ensures.0 c.if-not-is_complete.false)

pub returns-then-not-is_complete : goal.returns-then-not-is_complete
returns-then-not-is_complete c =
    let L = c.args.events.now in
    (refl, c.requires, subst (λ o. MatchOption o (IsOrderedSoFar L) (IsFirstDisordered L)) c.in_default.is c.in_ok-place.ensures, λ f. false≢true (sym c.if-not-is_complete.true ∙ c.is_complete.ensures.1 f))
