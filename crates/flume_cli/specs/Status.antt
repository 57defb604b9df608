-- The status of a call, as a function of its causes, and the line that tells of it.
use Rattle.std.specs.Prelude.{ℕ, Bool, not, if◌then◌else◌, List, [], ◌++◌, Option, Some, None, codes, decimal}
use Rattle.pipeline_desc.specs.Refusals.{number_of_kind}
use Rattle.pipeline_desc.specs.declared.refusal.Refusal.{Refusal}
use Rattle.ledger_verdict.specs.declared.verdict.Verdict.TheVariants.{Clean, Broken}
use Rattle.audit_run.specs.declared.reading.AuditEnd.{AuditEnd}
use Rattle.audit_run.specs.declared.reading.AuditEnd.TheVariants as end
use Rattle.audit_run.specs.declared.reading.LedgerRefusal.{LedgerRefusal}
use Rattle.audit_run.specs.declared.reading.LedgerRefusal.TheVariants.{Size, Line, Count}
use Rattle.flume_cli.specs.declared.status.Status.{Status}
use Rattle.flume_cli.specs.declared.status.Status.TheVariants as status

-- What a status comes from: memory was wanting to read the words; the words mean something; a read of the source failed; why the description is refused, where it is;
-- a write to the output failed; memory was wanting; a stream's end is a fault; a finalizer failed.
pub record Causes : Type 0 where
  pub early : Bool
  pub words : Bool
  pub unread : Bool
  pub refused : Option Refusal
  pub unwritten : Bool
  pub memory : Bool
  pub faulty : Bool
  pub unclean : Bool

-- the status of a call that did what was asked for
abbrev pub status_done : Causes → Status
status_done k =
    if k.unwritten then status.NotWritten else (if k.memory then status.Memory else (if k.faulty then status.Faulty else (if k.unclean then status.Unclean else status.Good)))

-- what comes first decides: memory for the words, the words, the source, the description, and then what was done
abbrev pub status_of : Causes → Status
status_of k =
    if k.early then status.Memory else (if not k.words then status.BadWords else (if k.unread then status.Unread else elim k.refused [ Some refusal ↦ status.Refused refusal | None ↦ status_done k ]))

-- the status of an audit that ended so
abbrev pub status_of_audit : AuditEnd → Status
status_of_audit (end.Told Clean) = status.Good
status_of_audit (end.Told (Broken i rule)) = status.Broken
status_of_audit end.NotWritten = status.NotWritten
status_of_audit end.Memory = status.Memory
status_of_audit (end.Refused refusal) = status.LedgerRefused refusal
status_of_audit end.Unread = status.LedgerUnread

-- the number that the program ends with
abbrev pub status_number : Status → ℕ
status_number status.Good = 0
status_number status.Faulty = 1
status_number status.BadWords = 2
status_number (status.Refused refusal) = 3
status_number status.NotWritten = 4
status_number status.Memory = 5
status_number status.Unread = 6
status_number status.Unclean = 7
status_number status.Broken = 1
status_number (status.LedgerRefused refusal) = 3
status_number status.LedgerUnread = 6

-- a name and a number, where there is one
abbrev pub place_text : List ℕ → Option ℕ → List ℕ
place_text name None = []
place_text name (Some n) = name ++ decimal n

-- the number of a refusal, and those of the stream and of the step where it has them
abbrev pub refusal_line : Refusal → List ℕ
refusal_line r =
    codes "flume: description refused " ++ decimal (number_of_kind r.kind) ++ place_text (codes " stream ") r.stream ++ place_text (codes " step ") r.step ++ codes "\n"

-- why a ledger is refused: its size, the place of a line, or how many events its head says and how many there are
abbrev pub ledger_refusal_text : LedgerRefusal → List ℕ
ledger_refusal_text Size = codes "size"
ledger_refusal_text (Line i) = codes "line " ++ decimal i
ledger_refusal_text (Count said found) = codes "count " ++ decimal said ++ codes " " ++ decimal found

-- the line that tells it
abbrev pub ledger_refusal_line : LedgerRefusal → List ℕ
ledger_refusal_line refusal = codes "flume: ledger refused " ++ ledger_refusal_text refusal ++ codes "\n"

-- what standard error is told
abbrev pub line_of : Status → List ℕ
line_of status.Good = []
line_of status.Faulty = []
line_of status.BadWords = codes "flume: bad command line\n"
line_of (status.Refused refusal) = refusal_line refusal
line_of status.NotWritten = []
line_of status.Memory = codes "flume: out of memory\n"
line_of status.Unread = codes "flume: cannot read the description\n"
line_of status.Unclean = []
line_of status.Broken = []
line_of (status.LedgerRefused refusal) = ledger_refusal_line refusal
line_of status.LedgerUnread = codes "flume: cannot read the ledger\n"
