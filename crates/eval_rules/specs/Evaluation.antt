-- What the run of an evaluation shows.
use Rattle.std.specs.Prelude.{◌≡◌, ◌≢◌, ◌⊎◌, ℕ, ◌<◌, false, true, List, [], ◌∷◌, ◌++◌, Option, Some, None}
use Rattle.std.specs.List.{AllByRecursion}
use Rattle.chunk_core.specs.Elements.{Element}
use Rattle.chunk_core.specs.Lists.{IsAmong}
use Rattle.chunk_core.specs.Outcomes.{Cut, End, Fault, Outcomes}
use Rattle.chunk_core.specs.Tables.{no_values}
use Rattle.chunk_core.specs.Texts.{IsRestOf}
use Rattle.chunk_core.specs.declared.code.Code.{Code}
use Rattle.chunk_core.specs.declared.code.How.{How}
use Rattle.chunk_core.specs.declared.code.How.TheVariants as how
use Rattle.device_port.specs.Depot.{content_at}
use Rattle.device_port.specs.Device.{DeviceTold, faults_of, to_read}
use Rattle.pipeline_desc.specs.declared.step.Step.{Step}
use Rattle.pull_nodes.specs.Pipes.{all_of, part_of}
use Rattle.pull_nodes.specs.Plain.{IsFront}
use Rattle.pull_nodes.specs.Failures.{FileTells}
use Rattle.pull_nodes.specs.Runs.{OpensThen, OrLeft, Piped, Reads, ReadsWhole}
use Rattle.pull_nodes.specs.declared.pipe.Pipe.TheVariants as pipe
use Rattle.res_ledger.specs.declared.event.Event.{Event}
use Rattle.res_ledger.specs.declared.event.StreamNo.TheVariants.{Inner}
use Rattle.run_rules.specs.declared.end.EndOf.{EndOf}
use Rattle.run_rules.specs.Devices.{DevicesAccounted, came_back}
use Rattle.run_rules.specs.Ends.{HaveEnds}
use Rattle.run_rules.specs.Exits.{HasExit}
use Rattle.run_rules.specs.Facts.{IsOver}
use Rattle.run_rules.specs.Homes.{HaveHomes}
use Rattle.run_rules.specs.Outputs.{IsReported}
use Rattle.run_rules.specs.Rules.{KeepsRules}
use Rattle.run_rules.specs.Run.{IsUnmade}
use Rattle.run_rules.specs.Work.{Work, RunRecord, begun_frames}
use Rattle.eval_rules.specs.Answers.{answer_of, answer_to, group_over, groups_of, how_of}

-- a device is opened and read, and the lines of its bytes are given; it may be left at any time
abbrev pub LinesComeOf : DeviceTold → Outcomes
LinesComeOf d = OrLeft (Unit {0}) (OpensThen d (OrLeft (Unit {0}) (Piped (part_of no_values pipe.Lines) (all_of no_values pipe.Lines) (OrLeft (Unit {0}) (Reads d)))) (Unit {0}))

-- and the end tells of each failure of the device
abbrev pub LineRuns : DeviceTold → Outcomes
LineRuns d ys e = LinesComeOf d ys e × FileTells d e

-- the lines of a device that is read whole
abbrev pub IdealLineRuns : DeviceTold → Outcomes
IdealLineRuns d = Piped (part_of no_values pipe.Lines) (all_of no_values pipe.Lines) (ReadsWhole d)

-- one stream of one row, which gives the lines of a file
abbrev pub reading_work : List ℕ → Work
reading_work path = record {
  opener = None;
  streams = record { places = to_read path ∷ []; scopes = 0; until = None } ∷ [];
  runs = λ k v w. LineRuns (w 0);
  ideal_runs = λ k v w. IdealLineRuns (w 0);
  listing = λ d ys e. ⊥;
  ideal_listing = λ d ys e. ⊥;
}

-- What was begun to be printed is a front of the answer to these lines, which ended so. Where stream 0 ended by itself it is the whole answer, whose end is its end.
pub record IsAnswered (steps : List Step) (n : ℕ) (xs : List Element) (e : End) (c : RunRecord) (h : How) : Type 0 where
  pub front : IsFront (begun_frames c) (answer_of steps n xs e).frames
  pub whole : IsOver h → (c.frames ≡ (answer_of steps n xs e).frames) × (h ≡ how_of (answer_of steps n xs e).end)

-- a group of these lines failed, and stream 0 ended so
abbrev pub HasFailedGroup : List Step → ℕ → List Element → How → Type 0
HasFailedGroup steps n xs h = (group : List Element) × (c : Code) × IsAmong group (groups_of n xs) × ((group_over steps group).end ≡ Fault c) × (h ≡ how.Fault c)

-- no more was printed of stream 0, which ended so
abbrev pub IsStopped : How → Type 0
IsStopped h = (h ≡ how.Halted) ⊎ (h ≡ how.Memory)

-- The exits tell how the reading of the lines ended, which is how stream 0 ended, unless a group failed or no more was printed.
pub record TellsReading (steps : List Step) (n : ℕ) (xs : List Element) (e : End) (L : List Event) (h : How) : Type 0 where
  pub reading : How
  pub reported : IsReported e reading
  pub told : AllByRecursion (λ x. HasExit (record { who = Inner 0; how = reading }) x.what) L
  pub same : (reading ≡ h) ⊎ HasFailedGroup steps n xs h ⊎ IsStopped h

-- no write and no device failed, and no memory was wanting
pub record IsUnfailed (c : RunRecord) : Type 0 where
  pub memory : c.memory ≡ false
  pub written : c.cut ≡ None
  pub devices : AllByRecursion (λ d. faults_of d ≡ 0) (came_back c.depot_old c.depot_new)

-- stream 0 ended so
abbrev pub EndsSo : RunRecord → How → Type 0
EndsSo c h = c.ends ≡ record { who = Inner 0; how = h } ∷ []

-- the answer to these bytes was printed, and stream 0 ended as it
pub record PrintsAnswer (steps : List Step) (n : ℕ) (bytes : List ℕ) (c : RunRecord) : Type 0 where
  pub frames : c.frames ≡ (answer_to steps n bytes).frames
  pub ends : EndsSo c (how_of (answer_to steps n bytes).end)

-- the lines were read over this device of the row, and the answer to them was printed as far as a device, a write or memory let it
pub record HasRun (path : List ℕ) (steps : List Step) (n : ℕ) (c : RunRecord) : Type 0 where
  pub home : ℕ → DeviceTold
  pub lines : List Element
  pub end : End
  pub ending : How
  pub rows : HaveHomes (reading_work path) c no_values home
  pub run : LineRuns (home 0) lines end
  -- whatever lines there are behind those where the reading was left: a group that it cut short counts for nothing
  pub answered : (more : List Element) → (end ≢ Cut → more ≡ []) → IsAnswered steps n (lines ++ more) end c ending
  pub rest : IsRestOf c.cut c.rest
  pub ends_so : EndsSo c ending
  pub ends : HaveEnds (reading_work path) c home
  pub broken : c.cut ≢ None → ending ≡ how.Halted
  pub wanting : c.memory ≡ true → ending ≡ how.Memory
  pub exits : TellsReading steps n lines end c.events ending
  pub completeness : (bytes : List ℕ) → content_at c.depot_old.files path ≡ Some bytes → IsUnfailed c → PrintsAnswer steps n bytes c

-- The lines of the file went through the steps in groups of n: its device is accounted for, its ledger keeps the rules, and the answer was given, where memory was there to begin.
pub record Evaluates (path : List ℕ) (steps : List Step) (n : ℕ) (c : RunRecord) : Type 0 where
  pub devices : DevicesAccounted c.depot_old c.depot_new (to_read path ∷ []) c.events
  pub ledger : KeepsRules (reading_work path) c.events
  pub ran : IsUnmade c ⊎ HasRun path steps n c

-- two runs over the same content in which nothing failed print the same frames and end the same
abbrev pub PrintsTheSame : Type 0
PrintsTheSame = (path : List ℕ) (steps : List Step) (n : ℕ) (bytes : List ℕ) (c d : RunRecord) → Evaluates path steps n c → Evaluates path steps n d → content_at c.depot_old.files path ≡ Some bytes → content_at d.depot_old.files path ≡ Some bytes → IsUnfailed c → IsUnfailed d
    → (c.frames ≡ d.frames) × (c.ends ≡ d.ends)
