-- The ledgers that `cat` and `run` print.
use Rattle.std.specs.Prelude.{◌≡◌, ◌⊎◌, ℕ, List, ◌++◌, flat_map, Option, Some}
use Rattle.chunk_core.specs.Texts.{Frame, frames_text}
use Rattle.res_ledger.specs.Limits.{IsLedger}
use Rattle.res_ledger.specs.Texts.{ledger_text}
use Rattle.ledger_verdict.specs.Verdict.{IsVerdict}
use Rattle.ledger_verdict.specs.declared.verdict.Verdict.TheVariants.{Clean}
use Rattle.device_port.specs.Sink.{with_bytes}
use Rattle.command_words.specs.Words.{command_of}
use Rattle.command_words.specs.declared.asked.Asked.TheVariants.{Cat, Run}
use Rattle.run_rules.specs.Texts.{end_line}
use Rattle.flume_cli.specs.declared.status.Status.{Status}
use Rattle.flume_cli.specs.Status.{status_number}
use Rattle.flume_cli.specs.Headline.{Call, Headline}

-- the words ask for a `cat` or for a `run`
abbrev pub AskForStreams : List (List ℕ) → Type 0
AskForStreams words = ((chunk : ℕ) × (path : List ℕ) × (command_of words ≡ Some (Cat chunk path))) ⊎ ((most : Option ℕ) × (command_of words ≡ Some (Run most)))

-- all was printed: the status is 0, or 1 for a fault, or 7 for a finalizer that failed
abbrev pub IsPrintedWhole : Status → Type 0
IsPrintedWhole s = (status_number s ≡ 0) ⊎ ((status_number s ≡ 1) ⊎ (status_number s ≡ 7))

-- what the call wrote are frames, a line for each end, and then the text
abbrev pub PrintsLast : Call → List ℕ → Type 0
PrintsLast c text = (frames : List Frame) × (c.out_new.written ≡ (with_bytes c.out_old (frames_text frames ++ (flat_map end_line c.ends ++ text))).written)

-- the ledger that a `cat` or a `run` reports is legal, complete and ordered, whatever its status
abbrev pub LedgersAreClean : Type 0
LedgersAreClean = (c : Call) → Headline c → AskForStreams c.words → IsVerdict c.events Clean

-- and its text is what the call printed last, where all was printed
abbrev pub LedgersArePrinted : Type 0
LedgersArePrinted = (c : Call) → Headline c → AskForStreams c.words → IsPrintedWhole c.status → PrintsLast c (ledger_text c.events)

-- a `cat` or a `run` printed the text last, as that of the ledger which it reports
pub record IsPrintedLedger (text : List ℕ) : Type 0 where
  pub call : Call
  pub holds : Headline call
  pub asks : AskForStreams call.words
  pub whole : IsPrintedWhole call.status
  pub ledger : IsLedger call.events
  pub is : text ≡ ledger_text call.events
  pub last : PrintsLast call text
