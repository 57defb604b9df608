use Rattle.std.proofs.Common.{sym, ◌∙◌}
use Rattle.std.proofs.lemmas.Bool.{false≢true}
use Rattle.res_ledger.specs.Ledger.{IsFinalized, IsHanded}
use Rattle.ledger_books.proofs.Following.{nothing_so, row_closed, row_closed_is}
use Rattle.ledger_books.proofs.books.may_end.Goals as goal

pub returns-then-not-is_closed : goal.returns-then-not-is_closed
returns-then-not-is_closed c = λ x ok. nothing_so (λ m. false≢true (sym c.if-not-is_closed.true ∙ c.is_closed.ensures.1 (row_closed_is c.args.past.now c.requires.legal c.args.row c.in-Some.at c.in-Some.owner c.in-Some.of c.in-Some.ensures m.0.0)))

pub returns-then-not-branch : goal.returns-then-not-branch
returns-then-not-branch c = λ x ok. nothing_so (λ m. false≢true (sym c.if-not-branch.true ∙ c.in_ok-is_free.ensures.1 m.0.1))

pub returns : goal.returns
returns c = λ x ok.
    let closed = c.is_closed.ensures.0 c.if-not-is_closed.false in
    let none : ¬ (IsFinalized c.args.past.now c.args.row) = λ f. false≢true (sym c.if-is_final.false ∙ c.is_final.ensures.1 f) in
    let h : IsHanded c.args.past.now c.args.row = (row_closed c.args.past.now c.requires.legal c.args.row c.in-Some.at c.in-Some.owner c.in-Some.of c.in-Some.ensures closed, c.in_ok-is_free.ensures.0 c.if-not-branch.false, none) in
    ((λ z. (h, c.has_right.ensures.0 z)), (λ m. c.has_right.ensures.1 m.1))
