use Rattle.std.proofs.Common.{◌≡◌, sym, subst}
use Rattle.res_ledger.specs.Texts.{event_line}
use Rattle.ledger_text.specs.Reading.{IsReadInFront}
use Rattle.res_ledger.specs.Limits.{IsSmallEvent}
use Rattle.ledger_text.proofs.Spelled.{front_none, body, body_lacks}
use Rattle.ledger_text.proofs.reading.next_event.Goals as goal

pub returns-in_err-event : goal.returns-in_err-event
returns-in_err-event c =
    let cut = c.in_ok-line.ensures in
    subst (IsReadInFront (λ e. IsSmallEvent e × (e.stamp ≡ c.args.stamp)) event_line c.args.text.now) (sym c.from_residual-in_err-event.ensures)
    (front_none 10 (λ e. IsSmallEvent e × (e.stamp ≡ c.args.stamp)) body (λ e p. body_lacks e p.0) c.args.text.now _ _ cut.0 cut.1 c.in_err-event.ensures)
