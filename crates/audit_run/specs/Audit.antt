-- What an audit reads, judges and prints.
use Rattle.std.specs.Prelude.{◌≡◌, ◌⊎◌, ℕ, true, false, List, [], Result, Ok, Err}
use Rattle.device_port.specs.Source.{SourceTold}
use Rattle.device_port.specs.Sink.{SinkTold, with_bytes, BreaksOff}
use Rattle.res_ledger.specs.declared.event.Event.{Event}
use Rattle.ledger_verdict.specs.Verdict.{IsVerdict}
use Rattle.ledger_verdict.specs.declared.verdict.Verdict.{Verdict}
use Rattle.source_input.specs.Input.{IsCutShort}
use Rattle.audit_run.specs.declared.reading.AuditEnd.{AuditEnd}
use Rattle.audit_run.specs.declared.reading.AuditEnd.TheVariants as end
use Rattle.audit_run.specs.Lines.{verdict_line}
use Rattle.audit_run.specs.Texts.{IsNoText, IsTextOf, ReadsText, most_read}

-- An audit, by how it ended: what was read of the source, from s to t; what was printed, from o to p; and the ledger that was read, which is empty where none was.
abbrev pub IsAudit : SourceTold → SourceTold → SinkTold → SinkTold → List Event → AuditEnd → Type 0
IsAudit s t o p L (end.Told verdict) = ReadsText s t (λ bytes. IsTextOf bytes L) × IsVerdict L verdict × (p ≡ with_bytes o (verdict_line verdict))
IsAudit s t o p L end.NotWritten = ReadsText s t (λ bytes. IsTextOf bytes L) × ((verdict : Verdict) × IsVerdict L verdict × BreaksOff o p (verdict_line verdict))
IsAudit s t o p L end.Memory = ((IsCutShort most_read false s t × (L ≡ [])) ⊎ ReadsText s t (λ bytes. IsTextOf bytes L)) × (p ≡ o)
IsAudit s t o p L (end.Refused refusal) = ReadsText s t (λ bytes. IsNoText bytes refusal) × (L ≡ []) × (p ≡ o)
IsAudit s t o p L end.Unread = IsCutShort most_read true s t × (L ≡ []) × (p ≡ o)

-- the ledger whose text the bytes are, or the end of an audit that has none
abbrev pub GivesLedger : List ℕ → Result (List Event) AuditEnd → Type 0
GivesLedger bytes (Ok L) = IsTextOf bytes L
GivesLedger bytes (Err (end.Refused refusal)) = IsNoText bytes refusal
GivesLedger bytes (Err end.Memory) = Unit {0}
GivesLedger bytes (Err e) = ⊥

-- the same of what a source gave
abbrev pub ReadsLedger : SourceTold → SourceTold → Result (List Event) AuditEnd → Type 0
ReadsLedger s t (Ok L) = ReadsText s t (λ bytes. IsTextOf bytes L)
ReadsLedger s t (Err (end.Refused refusal)) = ReadsText s t (λ bytes. IsNoText bytes refusal)
ReadsLedger s t (Err end.Memory) = IsCutShort most_read false s t
ReadsLedger s t (Err end.Unread) = IsCutShort most_read true s t
ReadsLedger s t (Err e) = ⊥

-- the verdict on a ledger was printed, or the end of an audit that didn't print it
abbrev pub TellsVerdict : List Event → SinkTold → SinkTold → AuditEnd → Type 0
TellsVerdict L o p (end.Told verdict) = IsVerdict L verdict × (p ≡ with_bytes o (verdict_line verdict))
TellsVerdict L o p end.NotWritten = (verdict : Verdict) × IsVerdict L verdict × BreaksOff o p (verdict_line verdict)
TellsVerdict L o p end.Memory = p ≡ o
TellsVerdict L o p e = ⊥
