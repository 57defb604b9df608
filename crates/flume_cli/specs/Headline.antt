-- The contract of the top call, over all that it reads, writes and reports.
use Rattle.std.specs.Prelude.{◌≡◌, ◌⊎◌, ℕ, ◌+◌, ◌<◌, ◌≤◌, Bool, true, false, nat_lt, if◌then◌else◌, is_ok, is_some, List, [], ◌++◌, length, Option, Some, None, Ok, Err}
use Rattle.std.specs.List.{list_any as any}
use Rattle.chunk_core.specs.Texts.{Frame, frames_text}
use Rattle.res_ledger.specs.declared.event.Event.{Event}
use Rattle.device_port.specs.Source.{SourceTold}
use Rattle.device_port.specs.Sink.{SinkTold, with_bytes, BreaksOff}
use Rattle.device_port.specs.Depot.{DepotTold}
use Rattle.command_words.specs.Words.{command_of}
use Rattle.command_words.specs.declared.asked.Asked.{Asked}
use Rattle.command_words.specs.declared.asked.Asked.TheVariants.{Cat, Run, Gen, Audit, Rotate, Tee, Eval}
use Rattle.run_rules.specs.declared.end.EndOf.{EndOf}
use Rattle.run_rules.specs.Facts.{is_fault, is_memory, is_failed, has_event}
use Rattle.run_rules.specs.Work.{Work, RunRecord}
use Rattle.run_rules.specs.Run.{Performs}
use Rattle.run_rules.specs.Texts.{tail_text}
use Rattle.pipeline_desc.specs.Meant.{PlanMeant}
use Rattle.pipeline_desc.specs.Plans.{plan_of}
use Rattle.pipeline_desc.specs.Reading.{Reading}
use Rattle.cat_run.specs.Cat.{cat_work, FramesAreWithin}
use Rattle.plan_work.specs.Plans.{run_work}
use Rattle.pipeline_desc.specs.declared.step.Step.{Step}
use Rattle.step_words.specs.Words.{steps_of}
use Rattle.rotate_rules.specs.Rotation.{RotatesFiles}
use Rattle.tee_rules.specs.Tee.{TeesFile}
use Rattle.eval_rules.specs.Evaluation.{Evaluates}
use Rattle.flume_cli.specs.Chains.{chains_of}
use Rattle.flume_cli.specs.Input.{IsInput, TakesSome}
use Rattle.flume_cli.specs.declared.status.Status.{Status}
use Rattle.flume_cli.specs.declared.status.Status.TheVariants as status
use Rattle.flume_cli.specs.Description.{with_most}
use Rattle.gen_case.specs.declared.case.Case.{Case}
use Rattle.flume_cli.specs.Generated.{IsWholeCase, RunsCase, text_of_run}
use Rattle.audit_run.specs.Audit.{IsAudit}
use Rattle.audit_run.specs.declared.reading.AuditEnd.{AuditEnd}
use Rattle.flume_cli.specs.Status.{Causes, status_of, status_of_audit, line_of}

-- a call: its words, the outside before and after, and its report
pub record Call : Type 0 where
  pub words : List (List ℕ)
  pub source_old : SourceTold
  pub source_new : SourceTold
  pub depot_old : DepotTold
  pub depot_new : DepotTold
  pub out_old : SinkTold
  pub out_new : SinkTold
  pub err_old : SinkTold
  pub err_new : SinkTold
  pub status : Status
  pub ends : List EndOf
  pub events : List Event

-- the text was written and nothing else, or a proper front of it and then a call failed
abbrev pub IsToldLine : SinkTold → SinkTold → List ℕ → Type 0
IsToldLine old new text = (new ≡ with_bytes old text) ⊎ BreaksOff old new text

-- the words mean something, and each word of steps means a chain
abbrev pub is_meant : Option Asked → Bool
is_meant None = false
is_meant (Some (Tee chunk path words)) = is_ok (chains_of words)
is_meant (Some (Eval jobs group path word)) = is_ok (steps_of word)
is_meant (Some _) = true

-- the status is that of the causes, each cause is seen in the call's own data, and standard error was told its line
pub record HasStatus (c : Call) (k : Causes) : Type 0 where
  pub words : k.words ≡ is_meant (command_of c.words)
  pub unread : k.unread ≡ nat_lt c.source_old.faults c.source_new.faults
  pub unwritten : k.unwritten ≡ nat_lt c.out_old.faults c.out_new.faults
  pub memory : any (λ e. is_memory e.how) c.ends ≡ true → k.memory ≡ true
  pub faulty : k.faulty ≡ any (λ e. is_fault e.how) c.ends
  pub unclean : k.unclean ≡ has_event is_failed c.events
  pub status : c.status ≡ status_of k
  pub line : IsToldLine c.err_old c.err_new (line_of c.status)

-- nothing was done: no device was made, nothing was written to the output, and the report is empty
pub record DidNothing (c : Call) : Type 0 where
  pub depot : c.depot_new ≡ c.depot_old
  pub out : c.out_new ≡ c.out_old
  pub ends : c.ends ≡ []
  pub events : c.events ≡ []

-- the run of a call, where these frames were printed, and memory was wanting or wasn't in the work itself
abbrev pub run_of_call : Call → List Frame → Option Frame → List ℕ → Bool → RunRecord
run_of_call c frames cut rest wanted =
    record { depot_old = c.depot_old; depot_new = c.depot_new; ends = c.ends; events = c.events; frames = frames; cut = cut; rest = rest; memory = wanted }

-- what was said where the tail was begun: a proper front of it where a write failed, nothing where there was no memory for it, else all of it
abbrev pub SaysBegun : List ℕ → List ℕ → Status → Type 0
SaysBegun said tail status.NotWritten = (more : List ℕ) × (0 < length more) × (said ++ more ≡ tail)
SaysBegun said tail status.Memory = said ≡ []
SaysBegun said tail _ = said ≡ tail

-- what was said behind the frames: nothing where the write of a frame failed or memory was wanting in the work, else the tail
abbrev pub SaysTail : Causes → List ℕ → List ℕ → Status → Bool → Bool → Type 0
SaysTail k said tail s true wanted = (k.unwritten ≡ true) × (said ≡ [])
SaysTail k said tail s false true = (k.unwritten ≡ false) × (k.memory ≡ true) × (said ≡ [])
SaysTail k said tail s false false = SaysBegun said tail s

-- what was written to the output: the frames, what was written of the one whose write failed, and what was said behind them
pub record IsText (c : Call) (k : Causes) (frames : List Frame) (cut : Option Frame) (rest : List ℕ) (wanted : Bool) : Type 0 where
  pub said : List ℕ
  pub written : c.out_new.written ≡ (with_bytes c.out_old (frames_text frames ++ (rest ++ said))).written
  pub tail : SaysTail k said (tail_text c.ends c.events) c.status (is_some cut) wanted
  pub spoke : c.ends ≡ [] → c.status ≡ status.Memory
  pub once : c.out_new.faults ≤ c.out_old.faults + 1

-- a run that is so was done and told
pub record TellsRun (IsSo : RunRecord → Type 0) (c : Call) (k : Causes) : Type 0 where
  pub frames : List Frame
  pub cut : Option Frame
  pub rest : List ℕ
  pub wanted : Bool
  pub performs : IsSo (run_of_call c frames cut rest wanted)
  pub text : IsText c k frames cut rest wanted

-- a work was done and told
abbrev pub TellsWork : Work → Call → Causes → Type 0
TellsWork work c k = TellsRun (Performs work) c k

-- A file was copied into files of n bytes each, and that was told: of the output nothing but the tail was written. What the files hold, which of them were open
-- at a time and how the stream ended stands in `RotatesFiles`.
pub record TellsRotation (path prefix : List ℕ) (n : ℕ) (c : Call) (k : Causes) : Type 0 where
  pub wanted : Bool
  pub rotates : RotatesFiles path prefix n (run_of_call c [] None [] wanted)
  pub text : IsText c k [] None [] wanted

-- A file was read once for branches of these steps, and that was told. What each branch printed and how it ended stands in `TeesFile`.
abbrev pub TellsTee : List ℕ → List (List Step) → Call → Causes → Type 0
TellsTee path branches c k = TellsRun (TeesFile path branches) c k

-- The lines of a file went through these steps in groups of n, and that was told. What was printed and how it ended stands in `Evaluates`, which names no
-- number of hands.
abbrev pub TellsEvaluation : List ℕ → List Step → ℕ → Call → Causes → Type 0
TellsEvaluation path steps n c k = TellsRun (Evaluates path steps n) c k

-- the branches that the words of steps mean printed what they give of a file, or nothing was done where one means none
abbrev pub DoesBranches : List ℕ → Reading (List (List Step)) → Call → Causes → Type 0
DoesBranches path (Ok branches) c k = TellsTee path branches c k
DoesBranches path (Err refusal) c k = DidNothing c

-- the chain that the word of steps means was evaluated, or nothing was done where it means none
abbrev pub DoesChain : List ℕ → ℕ → Reading (List Step) → Call → Causes → Type 0
DoesChain path n (Ok steps) c k = TellsEvaluation path steps n c k
DoesChain path n (Err refusal) c k = DidNothing c

-- a plan was run and told, some lines of whose list were given streams, where it has one
abbrev pub TellsPlan : PlanMeant → Call → Causes → Type 0
TellsPlan plan c k = (lines : List (List ℕ)) × TellsWork (run_work plan lines) c k

-- what the bytes of a description mean was done: its plan was run, with as many streams open at a time as the words tell, or nothing was done where it is refused
abbrev pub DoesPlan : Call → Causes → Option ℕ → Reading PlanMeant → Type 0
DoesPlan c k most (Ok plan) = (k.refused ≡ None) × TellsPlan (with_most most plan) c k
DoesPlan c k most (Err refusal) = (k.refused ≡ Some refusal) × DidNothing c

-- the source was read whole, and what its bytes mean was done
pub record RunsInput (c : Call) (k : Causes) (most : Option ℕ) : Type 0 where
  pub bytes : List ℕ
  pub input : IsInput c.source_old c.source_new bytes
  pub plan : DoesPlan c k most (plan_of bytes)

-- a read of the source failed, which was the last, or memory was wanting before the run; nothing was done
pub record StopsBefore (c : Call) (k : Causes) : Type 0 where
  pub cause : (k.unread ≡ true) ⊎ (k.memory ≡ true)
  pub taken : TakesSome k.unread c.source_old c.source_new
  pub refused : k.refused ≡ None
  pub nothing : DidNothing c

-- memory was wanting, and nothing was printed
pub record PrintsNothing (c : Call) (k : Causes) : Type 0 where
  pub memory : k.memory ≡ true
  pub out : c.out_new ≡ c.out_old

-- memory wasn't wanting: all of the case was printed in memory, and the summary of that to the output, or a proper front of it and then a write failed
pub record PrintsSummary (case : Case) (c : Call) (k : Causes) (frames : List Frame) : Type 0 where
  pub memory : k.memory ≡ false
  pub whole : IsWholeCase case c.ends c.events frames
  pub printed : IsToldLine c.out_old c.out_new (text_of_run case frames c.events)

-- A case was run over files of its own and summed up; of the depot no device was made. The numbers `bytes` and `digits` of the summary follow of the case
-- by `whole`; `frames` and the numbers of events are those of the run.
pub record TellsCase (case : Case) (c : Call) (k : Causes) : Type 0 where
  pub kept : c.depot_new ≡ c.depot_old
  pub runs : RunsCase case c.ends c.events
  pub told : PrintsNothing c k ⊎ PrintsSummary case c k runs.frames

-- what the words ask for, where there was memory to read them
abbrev pub asked_of : Call → Causes → Option Asked
asked_of c k = if k.early then None else command_of c.words

-- what was done for what is asked
abbrev pub Does : Call → Causes → Option Asked → Type 0
Does c k (Some (Cat chunk path)) = (t : TellsWork (cat_work path) c k) × FramesAreWithin chunk t.frames t.cut
Does c k (Some (Run most)) = StopsBefore c k ⊎ RunsInput c k most
Does c k (Some (Gen seed streams lines)) = TellsCase (record { seed = seed; streams = streams; lines = lines }) c k
Does c k (Some Audit) = ⊥
Does c k (Some (Rotate n path prefix)) = TellsRotation path prefix n c k
Does c k (Some (Tee chunk path words)) = DoesBranches path (chains_of words) c k
Does c k (Some (Eval jobs group path word)) = DoesChain path group (steps_of word) c k
Does c k None = DidNothing c

-- no description was read: the source is as it was, and nothing is refused
pub record ReadsNothing (c : Call) (k : Causes) : Type 0 where
  pub kept : c.source_new ≡ c.source_old
  pub refused : k.refused ≡ None

-- only a run reads the source
abbrev pub KeepsSource : Call → Causes → Option Asked → Type 0
KeepsSource c k (Some (Cat chunk path)) = ReadsNothing c k
KeepsSource c k (Some (Run most)) = Unit {0}
KeepsSource c k (Some (Gen seed streams lines)) = ReadsNothing c k
KeepsSource c k (Some Audit) = ⊥
KeepsSource c k (Some (Rotate n path prefix)) = ReadsNothing c k
KeepsSource c k (Some (Tee chunk path words)) = ReadsNothing c k
KeepsSource c k (Some (Eval jobs group path word)) = ReadsNothing c k
KeepsSource c k None = ReadsNothing c k

-- Streams were run, or nothing was done since the words mean nothing or found no memory. What it says of devices, ledger, outputs, ends and completeness stands
-- in `Performs`.
pub record RunsStreams (c : Call) : Type 0 where
  pub causes : Causes
  pub status : HasStatus c causes
  pub source : KeepsSource c causes (asked_of c causes)
  pub does : Does c causes (asked_of c causes)

-- The ledger that the source has was read, judged and told of. No device was made, and the report has the ledger that was read.
pub record AuditsLedger (c : Call) : Type 0 where
  pub asked : command_of c.words ≡ Some Audit
  pub kept : c.depot_new ≡ c.depot_old
  pub ends : c.ends ≡ []
  pub end : AuditEnd
  pub audit : IsAudit c.source_old c.source_new c.out_old c.out_new c.events end
  pub status : c.status ≡ status_of_audit end
  pub line : IsToldLine c.err_old c.err_new (line_of c.status)

-- The whole contract: an audit is told by the second part, and every other call by the first.
abbrev pub Headline : Call → Type 0
Headline c = RunsStreams c ⊎ AuditsLedger c
