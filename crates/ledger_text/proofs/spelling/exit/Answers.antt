use Rattle.std.proofs.Common.{codes}
use Rattle.ledger_text.proofs.Spelled.{no_exit, unequal}
use Rattle.ledger_text.proofs.spelling.exit.Goals as goal

pub returns-else-eq-3 : goal.returns-else-eq-3
returns-else-eq-3 c =
    no_exit c.args.word.now (unequal _ _ (codes "succeeded") c.if-eq.ensures c.as_slice.ensures) (unequal _ _ (codes "errored") c.if-eq-2.ensures c.as_slice-else-eq.ensures)
    (unequal _ _ (codes "canceled") c.if-eq-3.ensures c.as_slice-else-eq-2.ensures)
