-- How an audit ends is seen from outside.
use Rattle.std.specs.Prelude.{◌≡◌, ◌≢◌, ◌↔◌, ℕ, ◌<◌, List, take, Some}
use Rattle.device_port.specs.Source.{SourceTold}
use Rattle.device_port.specs.Sink.{SinkTold}
use Rattle.res_ledger.specs.declared.event.Event.{Event}
use Rattle.ledger_verdict.specs.Verdict.{IsVerdict}
use Rattle.ledger_verdict.specs.declared.verdict.Verdict.{Verdict}
use Rattle.audit_run.specs.declared.reading.AuditEnd.{AuditEnd}
use Rattle.audit_run.specs.declared.reading.AuditEnd.TheVariants as end
use Rattle.audit_run.specs.declared.reading.LedgerRefusal.{LedgerRefusal}
use Rattle.audit_run.specs.Audit.{IsAudit}
use Rattle.audit_run.specs.Texts.{IsNoText, IsTextOf, most_read}

-- it ends unread exactly where a read of the source failed
abbrev pub UnreadIsCounted : Type 0
UnreadIsCounted = (s t : SourceTold) (o p : SinkTold) (L : List Event) (e : AuditEnd) → IsAudit s t o p L e → (e ≡ end.Unread) ↔ (s.faults < t.faults)

-- it ends not written exactly where a write to the output failed
abbrev pub UnwrittenIsCounted : Type 0
UnwrittenIsCounted = (s t : SourceTold) (o p : SinkTold) (L : List Event) (e : AuditEnd) → IsAudit s t o p L e → (e ≡ end.NotWritten) ↔ (o.faults < p.faults)

-- it refuses what the source has exactly where that is no text of a ledger, unless a read failed or memory was wanting
abbrev pub RefusalIsOfTheText : Type 0
RefusalIsOfTheText = (s t : SourceTold) (o p : SinkTold) (L : List Event) (e : AuditEnd) (left : List ℕ) → s.left ≡ Some left → IsAudit s t o p L e → e ≢ end.Unread → e ≢ end.Memory → (refusal : LedgerRefusal)
    → (e ≡ end.Refused refusal) ↔ IsNoText (take most_read left) refusal

-- and else it tells the one verdict on the ledger whose text the source has, unless a write failed
abbrev pub VerdictIsOfTheText : Type 0
VerdictIsOfTheText = (s t : SourceTold) (o p : SinkTold) (L : List Event) (e : AuditEnd) (left : List ℕ) → s.left ≡ Some left → IsAudit s t o p L e → e ≢ end.Unread → e ≢ end.Memory → e ≢ end.NotWritten
    → (M : List Event) → IsTextOf (take most_read left) M → (verdict : Verdict) → IsVerdict M verdict → (e ≡ end.Told verdict) × (L ≡ M)

-- a text is refused for one cause
abbrev pub NoTextForOneCause : Type 0
NoTextForOneCause = (bytes : List ℕ) (r q : LedgerRefusal) → IsNoText bytes r → IsNoText bytes q → r ≡ q

-- the text of a ledger is refused for none
abbrev pub TextForNoCause : Type 0
TextForNoCause = (bytes : List ℕ) (L : List Event) (r : LedgerRefusal) → IsTextOf bytes L → ¬ (IsNoText bytes r)
