use Rattle.std.proofs.Common.{subst}
use Rattle.std.proofs.lemmas.Bool.{false≢true}
use Rattle.res_ledger.specs.declared.event.What.TheVariants.{Open}
use Rattle.ledger_books.specs.Keyed.{NotesAt}
use Rattle.ledger_books.proofs.Placed.{opened_at_one, place_noted}
use Rattle.ledger_books.proofs.leases.is_child_before.Goals as goal

pub returns-in_default : goal.returns-in_default
returns-in_default c = ((λ h. absurd (false≢true h)), (λ o. absurd (c.in_default.ensures (c.args.parent, place_noted c.args.past.now c.requires.legal c.args.by o.0.0 (Open c.args.scope c.args.parent) o.0.1))))

pub returns-then-above-parent : goal.returns-then-above-parent
returns-then-above-parent c = ((λ h. absurd (false≢true h)), (λ o. absurd (c.if-above-parent.true (opened_at_one c.args.past.now c.requires.legal c.args.by c.in-Some.field-0-0 o.0.0 c.args.scope c.in-Some.above c.args.parent c.in-Some.ensures o.0.1).1)))

pub returns : goal.returns
returns c = ((λ h. ((c.in-Some.field-0-0, subst (λ p. NotesAt c.args.past.now c.in-Some.field-0-0 c.args.by (Open c.args.scope p)) c.if-above-parent.false c.in-Some.ensures), c.is_unclosed_before.ensures.0 h)), (λ o. c.is_unclosed_before.ensures.1 o.1))
