-- What is read of a printed ledger, and the verdict on it.
use Rattle.std.proofs.Common.{◌≡◌, ℕ, List, sym, ◌∙◌, subst}
use Rattle.res_ledger.specs.declared.event.Event.{Event}
use Rattle.res_ledger.specs.Limits.{IsLedger}
use Rattle.res_ledger.specs.Texts.{ledger_text}
use Rattle.ledger_text.specs.Reading.{TextIsOne}
use Rattle.ledger_verdict.specs.declared.verdict.Verdict.{Verdict}
use Rattle.ledger_verdict.specs.declared.verdict.Verdict.TheVariants.{Clean}
use Rattle.ledger_verdict.specs.Verdict.{IsVerdict, VerdictIsOne}
use Rattle.audit_laws.specs.Printed.{IsPrintedLedger, LedgersAreClean}

-- the ledger that has the text is the one that was reported, whose verdict is one
pub judged_clean : TextIsOne → VerdictIsOne → LedgersAreClean → (text : List ℕ) (L : List Event) (v : Verdict) → IsPrintedLedger text → IsLedger L → ledger_text L ≡ text → IsVerdict L v → v ≡ Clean
judged_clean one verdict clean text L v p ledger is judged =
    let same : L ≡ p.call.events = one L p.call.events ledger p.ledger (is ∙ p.is) in
    verdict L v Clean judged (subst (λ (M : List Event). IsVerdict M Clean) (sym same) (clean p.call p.holds p.asks))
