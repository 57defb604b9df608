use Rattle.std.proofs.Common.{◌∷◌, ◌++◌, codes, if◌then◌else◌, sym, ap, ◌∙◌, subst, append_assoc}
use Rattle.chunk_core.specs.Texts.{exit_text}
use Rattle.ledger_text.specs.Reading.{IsReadAs}
use Rattle.ledger_text.proofs.Spelled.{no_end, unequal, front_none, exit_has_no_space}
use Rattle.ledger_text.proofs.spelling.finalizer_end.Goals as goal

pub returns-in_err-exit : goal.returns-in_err-exit
returns-in_err-exit c =
    let cut = c.in_ok-told.ensures in
    subst (λ o. IsReadAs (λ p. Unit {0}) (λ p. exit_text p.0 ++ codes " " ++ (if p.1 then codes "ok" else codes "fault")) c.args.text.now o) (sym c.from_residual-in_err-exit.ensures)
    (λ p u. front_none 32 (λ x. Unit {0}) exit_text exit_has_no_space c.args.text.now _ _ cut.0 cut.1 c.in_err-exit.ensures p.0 _ tt)

pub returns-else-eq-2 : goal.returns-else-eq-2
returns-else-eq-2 c =
    let cut = c.in_ok-told.ensures in
    let exit = c.in_ok-exit.exit in
    no_end c.args.text.now _ exit (cut.1 ∙ ap (λ l. l ++ 32 ∷ c.in_ok-told.word.now) c.in_ok-exit.ensures.1 ∙ sym (append_assoc (exit_text exit) (codes " ") c.in_ok-told.word.now))
    (unequal _ _ (codes "ok") c.if-eq.ensures c.as_slice.ensures) (unequal _ _ (codes "fault") c.if-eq-2.ensures c.as_slice-else-eq.ensures)
