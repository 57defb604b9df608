use Rattle.std.proofs.Common.{◌<◌, ◌^◌, ◌∷◌, ◌++◌, [], codes, decimal, sym, ap, ◌∙◌, subst, append_assoc}
use Rattle.std.proofs.lemmas.List.{append_cancel_left}
use Rattle.ledger_text.specs.Reading.{IsReadInFront, head_line}
use Rattle.res_ledger.proofs.Words.{lacks_none}
use Rattle.ledger_text.proofs.Spelled.{front_none, head_lacks, stripped}
use Rattle.ledger_text.proofs.reading.head.Goals as goal

pub returns-in_err-line : goal.returns-in_err-line
returns-in_err-line c =
    subst (IsReadInFront (λ n. n < 2 ^ 64) head_line c.args.text.now) (sym c.from_residual.ensures)
    (λ n rest small e. lacks_none 10 c.args.text.now (codes "ledger " ++ decimal n) rest c.in_err-line.ensures (e ∙ append_assoc (codes "ledger " ++ decimal n) (10 ∷ []) rest))

pub returns-in_err-number : goal.returns-in_err-number
returns-in_err-number c =
    let cut = c.in_ok-line.ensures in
    let is = stripped (codes "ledger ") c.in_ok-line.line.now c.in_ok-digits.digits c.in_ok-digits.ensures.cases in
    subst (IsReadInFront (λ n. n < 2 ^ 64) head_line c.args.text.now) (sym c.from_residual-in_err-number.ensures)
    (front_none 10 (λ n. n < 2 ^ 64) (λ n. codes "ledger " ++ decimal n) head_lacks c.args.text.now _ _ cut.0 cut.1
    (λ n small e. c.in_err-number.ensures n small (append_cancel_left (codes "ledger ") c.in_ok-digits.digits.now (decimal n) (sym is ∙ e))))

pub returns : goal.returns
returns c =
    let cut = c.in_ok-line.ensures in
    let is = stripped (codes "ledger ") c.in_ok-line.line.now c.in_ok-digits.digits c.in_ok-digits.ensures.cases in
    let read = c.in_ok-number.ensures in
    let n = c.in_ok-number.field-0 in
    let rest = c.in_ok-line.rest.now in
    (read.0, cut.1 ∙ ap (λ l. l ++ 10 ∷ rest) (is ∙ ap (λ l. codes "ledger " ++ l) read.1) ∙ sym (append_assoc (codes "ledger " ++ decimal n) (10 ∷ []) rest))
