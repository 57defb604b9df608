use Rattle.std.proofs.Common.{◌≡◌, ap, sym, ◌∙◌, refl}
use Rattle.std.proofs.lemmas.Bool.{false≢true}
use Rattle.ledger_books.specs.Keyed.{number_of}
use Rattle.ledger_books.proofs.Keys.{number_is}
use Rattle.ledger_books.proofs.Placed.{at_among}
use Rattle.ledger_books.proofs.Canceling.{canceled_by_one}
use Rattle.ledger_books.proofs.leases.is_canceled_by.Goals as goal

pub returns-in_default : goal.returns-in_default
returns-in_default c = ((λ h. absurd (false≢true h)), (λ n. absurd (c.in_default.ensures (c.args.by, n))))

pub returns-then-number : goal.returns-then-number
returns-then-number c = ((λ h. absurd (false≢true h)), (λ n. absurd (c.if-number.true (c.number.ensures ∙ ap number_of (sym (canceled_by_one c.args.past.now c.requires.legal c.in-Some.field-0-0 c.args.stream c.in-Some.canceler c.args.by c.in-Some.field-0-2 n.0 c.in-Some.ensures n.1)) ∙ sym c.number-2.ensures))))

pub returns : goal.returns
returns c =
    let e : c.in-Some.canceler ≡ c.args.by = sym (number_is c.args.by c.in-Some.canceler (sym c.number.ensures ∙ c.if-number.false ∙ c.number-2.ensures)) in
    let n = c.in-Some.ensures in
    ((λ h. (c.in-Some.field-0-2, (n.0, at_among c.args.past.now c.in-Some.field-0-0 n.0 n.1, n.2 ∙ e, n.3))), (λ z. refl))
