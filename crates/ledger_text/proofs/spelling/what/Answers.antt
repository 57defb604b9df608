use Rattle.std.proofs.Common.{◌++◌, codes, sym, ap, ◌∙◌, subst}
use Rattle.res_ledger.specs.declared.event.What.TheVariants.{Final}
use Rattle.res_ledger.specs.Texts.{what_text}
use Rattle.ledger_text.specs.Reading.{IsReadAs}
use Rattle.res_ledger.specs.Limits.{IsSmallWhat}
use Rattle.ledger_text.proofs.Spelled.{stripped, what_is, no_open, no_acquire, no_lease, no_cancel, no_close, no_final}
use Rattle.ledger_text.proofs.spelling.what.Goals as goal

pub returns-in_err-scope : goal.returns-in_err-scope
returns-in_err-scope c =
    let cut = stripped (codes "open ") c.args.text.now c.in-Some.rest c.in-Some.ensures.cases in
    subst (IsReadAs IsSmallWhat what_text c.args.text.now) (sym c.from_residual.ensures)
    (no_open c.args.text.now c.in-Some.rest.now cut c.in_err-scope.ensures)

pub returns-in_err-row : goal.returns-in_err-row
returns-in_err-row c =
    let cut = stripped (codes "acquire ") c.args.text.now c.in-Some-strip_prefix.rest c.in-Some-strip_prefix.ensures.cases in
    subst (IsReadAs IsSmallWhat what_text c.args.text.now) (sym c.from_residual-in_err-row.ensures)
    (no_acquire c.args.text.now c.in-Some-strip_prefix.rest.now cut c.in_err-row.ensures)

pub returns-in_err-stream : goal.returns-in_err-stream
returns-in_err-stream c =
    let cut = stripped (codes "lease ") c.args.text.now c.in-Some-strip_prefix-2.rest c.in-Some-strip_prefix-2.ensures.cases in
    subst (IsReadAs IsSmallWhat what_text c.args.text.now) (sym c.from_residual-in_err-stream.ensures)
    (no_lease c.args.text.now c.in-Some-strip_prefix-2.rest.now cut c.in_err-stream.ensures)

pub returns-in_err-stream-2 : goal.returns-in_err-stream-2
returns-in_err-stream-2 c =
    let cut = stripped (codes "cancel ") c.args.text.now c.in-Some-strip_prefix-3.rest c.in-Some-strip_prefix-3.ensures.cases in
    subst (IsReadAs IsSmallWhat what_text c.args.text.now) (sym c.from_residual-in_err-stream-2.ensures)
    (no_cancel c.args.text.now c.in-Some-strip_prefix-3.rest.now cut c.in_err-stream-2.ensures)

pub returns-in_err-scope-2 : goal.returns-in_err-scope-2
returns-in_err-scope-2 c =
    let cut = stripped (codes "close ") c.args.text.now c.in-Some-strip_prefix-4.rest c.in-Some-strip_prefix-4.ensures.cases in
    subst (IsReadAs IsSmallWhat what_text c.args.text.now) (sym c.from_residual-in_err-scope-2.ensures)
    (no_close c.args.text.now c.in-Some-strip_prefix-4.rest.now cut c.in_err-scope-2.ensures)

pub returns-in_err-row-2 : goal.returns-in_err-row-2
returns-in_err-row-2 c =
    let cut = stripped (codes "final ") c.args.text.now c.in-Some-strip_prefix-5.rest c.in-Some-strip_prefix-5.ensures.cases in
    subst (IsReadAs IsSmallWhat what_text c.args.text.now) (sym c.from_residual-in_err-row-2.ensures)
    (no_final c.args.text.now c.in-Some-strip_prefix-5.rest.now cut c.in_err-row-2.ensures)

pub returns-in_ok-row-2 : goal.returns-in_ok-row-2
returns-in_ok-row-2 c =
    let cut = stripped (codes "final ") c.args.text.now c.in-Some-strip_prefix-5.rest c.in-Some-strip_prefix-5.ensures.cases in
    let read = c.in_ok-row-2.ensures in
    (read.0, cut ∙ ap (λ l. codes "final " ++ l) read.1 ∙ sym (what_is (Final c.in_ok-row-2.row c.in_ok-row-2.exit c.in_ok-row-2.ok)))
