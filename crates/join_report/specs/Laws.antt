-- What follows of a report and of what was learned.
use Rattle.std.specs.Prelude.{◌≡◌, ℕ, ◌<◌, List, length, Option}
use Rattle.interrupt_ctx.specs.declared.view.Interruption.{Interruption}
use Rattle.interrupt_ctx.specs.declared.why.Stop.{Stop}
use Rattle.res_ledger.specs.declared.event.StreamNo.{StreamNo}
use Rattle.run_rules.specs.Work.{Stream, names_from}
use Rattle.join_tale.specs.Ended.{Ended}
use Rattle.join_tale.specs.Records.{IsSettled}
use Rattle.join_tale.specs.Steps.{fated, heeded, learned}
use Rattle.join_tale.specs.Tales.{HasCome, IsBegun, IsKnown, Tale}
use Rattle.join_tale.specs.Tales.Fate.{Begun, Skipped}
use Rattle.join_report.specs.Accounts.{names_below}
use Rattle.join_report.specs.Reports.{IsReport, how_of}
use Rattle.join_report.specs.Stopping.{IsSeated, IsUnknown, Learns, TellsKnown, view_of}
use Rattle.join_report.specs.declared.report.Report.{Report}
use Rattle.join_report.specs.declared.stops.Stops.{Stops}

-- a report stays one where a stream begins or is skipped, where contexts are set or found set, whoever was halted by that, and whoever's turn it was
pub record ReportStays (most : Option ℕ) (n : ℕ) (t : Tale) (r : Report) : Type 0 where
  pub begins : IsReport most n (fated t Begun) r
  pub skips : IsReport most n (fated t Skipped) r
  pub learns : (vs cs : List Interruption) → IsReport most n (learned t vs cs) r
  pub heeds : (os : List (StreamNo × Stop)) → IsReport most n (heeded t os) r
  pub turns : (pulled : List ℕ) (room : ℕ → List ℕ) → IsReport most n (record t { pulled = pulled; room = room }) r

abbrev pub ReportsStay : Type 0
ReportsStay = (most : Option ℕ) (n : ℕ) (t : Tale) (r : Report) → IsReport most n t r → ReportStays most n t r

-- once the ends of all streams that were begun came, each stream that has a fate ended as it is reported
abbrev pub ReportsEnds : Type 0
ReportsEnds = (most : Option ℕ) (n : ℕ) (t : Tale) (r : Report) → IsReport most n t r → ((k : ℕ) → IsBegun t k → HasCome t k) → (k : ℕ) → k < n → k < length t.fates → Ended t k (how_of r k)

-- the streams of the reported ends are named as those that run
abbrev pub NamesAgree : Type 0
NamesAgree = (ss : List Stream) → names_below (length ss) ≡ names_from 0 ss

-- what is set and found stands in the tale that learns it
abbrev pub LearnsKnown : Type 0
LearnsKnown = (t : Tale) (old new : Stops) (vs cs : List Interruption) → TellsKnown t old → Learns old new vs cs → TellsKnown (learned t vs cs) new

-- a context of which the seat knows nothing isn't known in the tale
abbrev pub UnknownIsUnknown : Type 0
UnknownIsUnknown = (t : Tale) (s : Stops) (context : ℕ) → TellsKnown t s → IsUnknown (view_of s) context → ¬ (IsKnown t context)

-- once all seats are in, what was found set is set
abbrev pub SettlesAtEnd : Type 0
SettlesAtEnd = (t : Tale) (s : Stops) → TellsKnown t s → IsSeated s → (view_of s).out ≡ 0 → IsSettled t
