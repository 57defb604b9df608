use Rattle.std.proofs.Common.{arith, refl, sym, ◌∙◌, ◌≤◌}
use Rattle.std.proofs.lemmas.Bool.{false≢true}
use Rattle.ledger_books.proofs.Keys.{close_at, close_none}
use Rattle.ledger_books.proofs.Covering.{unclosed_by}
use Rattle.ledger_books.proofs.scopes.is_unclosed_before.Goals as goal

pub returns-in_default : goal.returns-in_default
returns-in_default c = ((λ h m x a. absurd (close_none c.args.index.now c.args.past.now c.requires.index c.args.by c.args.scope c.number.result c.number.ensures (sym c.find.ensures ∙ c.in_default.is) m x a)), (λ h. refl))

pub returns-then-closed-place : goal.returns-then-closed-place
returns-then-closed-place c =
    let t = close_at c.args.index.now c.args.past.now c.requires.index c.args.by c.args.scope c.number.result c.in-Some.closed c.number.ensures (sym c.find.ensures ∙ c.in-Some.is) in
    ((λ h. absurd (false≢true h)), (λ u. let l = u c.in-Some.closed t.0 t.1 in absurd (omega arith)))

pub returns : goal.returns
returns c =
    let t = close_at c.args.index.now c.args.past.now c.requires.index c.args.by c.args.scope c.number.result c.in-Some.closed c.number.ensures (sym c.find.ensures ∙ c.in-Some.is) in
    let l : c.args.place ≤ c.in-Some.closed = omega arith in
    ((λ h. unclosed_by c.args.past.now c.requires.legal c.args.by c.args.place c.in-Some.closed c.args.scope t.0 t.1 l), (λ u. refl))
