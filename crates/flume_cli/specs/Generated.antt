-- How a case is run and summed up.
use Rattle.std.specs.Prelude.{◌≡◌, ℕ, Bool, false, List, [], Option, Some, IfSome, MatchOption}
use Rattle.std.specs.List.{list_any as any, AllByRecursion}
use Rattle.chunk_core.specs.Texts.{Frame, frames_text}
use Rattle.chunk_core.specs.declared.code.How.TheVariants as how
use Rattle.res_ledger.specs.declared.event.Event.{Event}
use Rattle.device_port.specs.Depot.{DepotTold}
use Rattle.device_port.specs.Sink.{SinkTold}
use Rattle.run_rules.specs.declared.end.EndOf.{EndOf}
use Rattle.run_rules.specs.Facts.{is_fault, is_failed, has_event}
use Rattle.run_rules.specs.Run.{Performs}
use Rattle.run_rules.specs.Work.{RunRecord}
use Rattle.cat_run.specs.declared.outcome.Outcome.{Outcome}
use Rattle.plan_work.specs.Plans.{run_work}
use Rattle.gen_case.specs.Ideal.{AreIdeal, ideal_bytes, ideal_digits}
use Rattle.gen_case.specs.Plan.{plan_of_case}
use Rattle.gen_case.specs.Runs.{depot_of}
use Rattle.gen_case.specs.Summary.{summary_of, summary_text}
use Rattle.gen_case.specs.Tally.{AreNumbered, bytes_in, digits_in}
use Rattle.gen_case.specs.declared.case.Case.{Case}

-- the run of a case over its files, where these frames were printed; a write of the frame `cut` found no memory, and rest is what was written of it
abbrev pub case_run : Case → DepotTold → List EndOf → List Event → List Frame → Option Frame → List ℕ → Bool → RunRecord
case_run case depot ends L frames cut rest memory =
    record { depot_old = depot_of case; depot_new = depot; ends = ends; events = L; frames = frames; cut = cut; rest = rest; memory = memory }

-- the plan of the case was run over its files, in memory, and no stream failed
pub record RunsCase (case : Case) (ends : List EndOf) (L : List Event) : Type 0 where
  pub depot : DepotTold
  pub frames : List Frame
  pub cut : Option Frame
  pub rest : List ℕ
  pub memory : Bool
  pub performs : Performs (run_work (plan_of_case case) []) (case_run case depot ends L frames cut rest memory)
  pub unfailed : any (λ e. is_fault e.how) ends ≡ false

-- all of the case was printed: each stream is done, no finalizer failed, the frames of each stream are together the text that follows of the case, and so
-- are the numbers that they add up to
pub record IsWholeCase (case : Case) (ends : List EndOf) (L : List Event) (frames : List Frame) : Type 0 where
  pub done : AllByRecursion (λ e. e.how ≡ how.Done) ends
  pub clean : has_event is_failed L ≡ false
  pub ideal : AreIdeal case frames
  pub bytes : bytes_in frames ≡ ideal_bytes case
  pub digits : digits_in frames ≡ ideal_digits case

-- the text of the summary of a run of which these frames were printed and these events noted
abbrev pub text_of_run : Case → List Frame → List Event → List ℕ
text_of_run case frames L = summary_text (summary_of case frames L)

-- a run and the text of its summary: there is one where memory wasn't wanting, and the case was printed whole then
pub record Generates (case : Case) (ends : List EndOf) (L : List Event) (text : Option (List ℕ)) : Type 0 where
  pub runs : RunsCase case ends L
  pub summed : MatchOption text (Unit {0}) (λ t. IsWholeCase case ends L runs.frames × (t ≡ text_of_run case runs.frames L))

-- where nothing failed, the text of the summary of the frames that the sink holds
pub record SumsFrames (case : Case) (o : Outcome) (sink : SinkTold) (bytes : List ℕ) : Type 0 where
  pub written : o.sink_failed ≡ false
  pub memory : o.memory ≡ false
  pub text : (frames : List Frame) → AreNumbered frames → sink.written ≡ Some (frames_text frames) → bytes ≡ text_of_run case frames o.ledger

-- the same, unless memory was wanting
abbrev pub Sums : Case → Outcome → SinkTold → Option (List ℕ) → Type 0
Sums case o sink text = IfSome text (SumsFrames case o sink)
