use Rattle.std.proofs.Common.{◌≡◌, ◌++◌, codes, sym, subst}
use Rattle.res_ledger.specs.Texts.{name_text, what_text}
use Rattle.ledger_text.specs.Reading.{IsReadAs}
use Rattle.res_ledger.specs.Limits.{IsSmallEvent, IsSmallStream, IsSmallWhat}
use Rattle.ledger_text.proofs.Spelled.{back_none, name_has_no_space}
use Rattle.ledger_text.proofs.spelling.event.Goals as goal

pub returns-in_err-what : goal.returns-in_err-what
returns-in_err-what c =
    let front = c.in_ok-by.ensures in
    subst (IsReadAs (λ e. IsSmallEvent e × (e.stamp ≡ c.args.stamp)) (λ e. name_text e.by ++ codes " " ++ what_text e.what) c.args.text.now) (sym c.from_residual-in_err-what.ensures)
    (λ e p. back_none 32 IsSmallStream name_text name_has_no_space IsSmallWhat what_text c.args.text.now _ c.in_ok-by.by front.0 front.1 c.in_err-what.ensures e.by e.what p.0.0 p.0.1)
