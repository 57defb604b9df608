-- How a run is told.
use Rattle.std.specs.Prelude.{◌≡◌, ◌⊎◌, ℕ, true, false, if◌then◌else◌, List, Option, Some, None}
use Rattle.std.specs.List.{list_any as any}
use Rattle.res_ledger.specs.declared.event.Event.{Event}
use Rattle.device_port.specs.Sink.{SinkTold, with_bytes, BreaksOff}
use Rattle.run_rules.specs.declared.end.EndOf.{EndOf}
use Rattle.run_rules.specs.Facts.{is_fault, is_failed, has_event}
use Rattle.run_rules.specs.Texts.{tail_text}
use Rattle.flume_cli.specs.declared.status.Status.{Status}
use Rattle.flume_cli.specs.declared.status.Status.TheVariants as status
use Rattle.flume_cli.specs.declared.report.Report.{Report}
use Rattle.cat_run.specs.declared.outcome.Outcome.{Outcome}
use Rattle.flume_cli.specs.Status.{line_of}
use Rattle.flume_cli.specs.Headline.{IsToldLine}

-- the status of a run of which all was printed
abbrev pub status_by : List EndOf → List Event → Status
status_by ends L = if any (λ e. is_fault e.how) ends then status.Faulty else (if has_event is_failed L then status.Unclean else status.Good)

-- where nothing failed so far, the tail is printed
abbrev pub Prints : Outcome → SinkTold → SinkTold → Status → Type 0
Prints o old new status.NotWritten = BreaksOff old new (tail_text o.ends o.ledger)
Prints o old new status.Memory = new ≡ old
Prints o old new status.BadWords = ⊥
Prints o old new s = (new ≡ with_bytes old (tail_text o.ends o.ledger)) × (s ≡ status_by o.ends o.ledger)

-- The tail is printed unless a write failed or memory was wanting, and gives the status.
pub record PrintsTail (o : Outcome) (old new : SinkTold) (s : Status) : Type 0 where
  pub failed : o.sink_failed ≡ true → (s ≡ status.NotWritten) × (new ≡ old)
  pub memory : o.sink_failed ≡ false → o.memory ≡ true → (s ≡ status.Memory) × (new ≡ old)
  pub printed : o.sink_failed ≡ false → o.memory ≡ false → Prints o old new s

-- the status, the ends and the ledger are reported, and the line of the status is told
pub record Reports (s : Status) (ends : List EndOf) (L : List Event) (old new : SinkTold) (r : Report) : Type 0 where
  pub status_is : r.status ≡ s
  pub ends_are : r.ends ≡ ends
  pub ledger_is : r.ledger ≡ L
  pub line : IsToldLine old new (line_of s)

-- how a run ended was told: the tail was printed as far as it could be, and the status of that was reported
pub record Tells (o : Outcome) (out_old out_new err_old err_new : SinkTold) (r : Report) : Type 0 where
  pub tail : PrintsTail o out_old out_new r.status
  pub report : Reports r.status o.ends o.ledger err_old err_new r

-- the status of a case whose summary was printed, or of one of which nothing was since memory was wanting
abbrev pub PrintsText : Option (List ℕ) → SinkTold → SinkTold → Status → Type 0
PrintsText None old new s = (s ≡ status.Memory) × (new ≡ old)
PrintsText (Some text) old new s = ((s ≡ status.Good) × (new ≡ with_bytes old text)) ⊎ ((s ≡ status.NotWritten) × BreaksOff old new text)

-- how a case ended was told: the summary was printed as far as it could be, and the status of that was reported
pub record TellsText (text : Option (List ℕ)) (o : Outcome) (out_old out_new err_old err_new : SinkTold) (r : Report) : Type 0 where
  pub printed : PrintsText text out_old out_new r.status
  pub report : Reports r.status o.ends o.ledger err_old err_new r
