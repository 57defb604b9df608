-- What is told of a tee.
use Rattle.std.specs.Prelude.{◌≡◌, ◌⊎◌, ℕ, zero, suc, ◌+◌, ◌<◌, Bool, true, List, [], ◌∷◌, ◌++◌, length, Option, Some, None, IfSome, is_some}
use Rattle.std.specs.List.{AllByRecursion, list_any}
use Rattle.chunk_core.specs.Elements.{Element}
use Rattle.chunk_core.specs.Lists.{IsAmong}
use Rattle.chunk_core.specs.Outcomes.{Done, End}
use Rattle.chunk_core.specs.Tables.{no_values}
use Rattle.chunk_core.specs.Texts.{Frame, IsRestOf, frames_text}
use Rattle.chunk_core.specs.declared.code.Code.{Code}
use Rattle.chunk_core.specs.declared.code.How.{How}
use Rattle.chunk_core.specs.declared.code.How.TheVariants as how
use Rattle.device_port.specs.Device.{DeviceTold}
use Rattle.device_port.specs.Sink.{SinkTold, with_bytes}
use Rattle.chain_pipes.specs.Over.{chain_all, chain_part}
use Rattle.pipeline_desc.specs.declared.step.Step.{Step}
use Rattle.pull_nodes.specs.Plain.{IsFront}
use Rattle.pull_nodes.specs.Failures.{IsToldRun}
use Rattle.pull_nodes.specs.declared.node.Node.{Node}
use Rattle.res_ledger.specs.declared.event.StreamNo.TheVariants.{Inner, Outer}
use Rattle.run_rules.specs.Facts.{IsOver, is_memory}
use Rattle.run_rules.specs.Outputs.{IsReported}
use Rattle.run_rules.specs.declared.end.EndOf.{EndOf}
use Rattle.cat_run.specs.Cat.{and_one}
use Rattle.cat_run.specs.declared.outcome.Outcome.{Outcome}
use Rattle.lone_stream.specs.Ran.{ComesHome}
use Rattle.tee_prints.specs.Printed.{IsStop}
use Rattle.tee_rules.specs.Branches.{AreBranches}
use Rattle.tee_run.specs.declared.told.Teeing.{Teeing}

-- the ends of the branches from i on
abbrev pub ends_from : ℕ → List How → List EndOf
ends_from i [] = []
ends_from i (h ∷ hs) = record { who = Inner i; how = h } ∷ ends_from (i + 1) hs

-- so many branches that were halted
abbrev pub all_halted : ℕ → List How
all_halted zero = []
all_halted (suc n) = how.Halted ∷ all_halted n

-- the frames that were begun
abbrev pub begun_of : List Frame → Option Frame → List Frame
begun_of frames cut = frames ++ elim cut [ Some f ↦ f ∷ [] | None ↦ [] ]

-- why something may be halted: a write failed, or one of these ends is a fault or want of memory
abbrev pub HasCause : Bool → List How → Type 0
HasCause broken hs = (broken ≡ true) ⊎ ((h : How) × IsAmong h hs × IsStop h)

-- a branch's steps gave this fault of these elements, which may go on, or which are all
abbrev pub GivesFault : List Step → List Element → End → List Element → Code → Type 0
GivesFault s given end xs f = ((chain_part s xs).fault ≡ Some f) ⊎ ((end ≡ Done) × (xs ≡ given) × ((chain_all s xs).fault ≡ Some f))

-- Of what the reader gave, which ended so, each branch printed what its steps give of a front. The ends are told in order, and none is halted without a cause.
pub record PrintsBranches (branches : List (List Step)) (given : List Element) (end : End) (h : How) (old new : SinkTold) (o : Outcome) : Type 0 where
  pub hows : List How
  pub frames : List Frame
  pub cut : Option Frame
  pub rest : List ℕ
  pub broke : is_some cut ≡ o.sink_failed
  pub front : IsRestOf cut rest
  pub wrote : new ≡ record (with_bytes old (frames_text frames ++ rest)) { faults = and_one o.sink_failed old.faults }
  pub numbers : AllByRecursion (λ f. (f.stream < length branches) × (0 < length f.payload)) (begun_of frames cut)
  pub each : AreBranches given end (begun_of frames cut) 0 branches (ends_from 0 hows)
  pub unfinished : IfSome cut (λ f. AllByRecursion (λ e. e.who ≡ Inner f.stream → ¬ (IsOver e.how)) (ends_from 0 hows))
  pub ends : o.ends ≡ record { who = Outer; how = h } ∷ ends_from 0 hows
  pub memory : o.memory ≡ list_any is_memory (h ∷ hows)
  pub faults : (f : Code) → IsAmong (how.Fault f) hows → (s : List Step) × (xs : List Element) × IsAmong s branches × IsFront xs given × GivesFault s given end xs f
  pub caused : IsAmong how.Halted (h ∷ hows) → HasCause o.sink_failed (h ∷ hows)

module _ {V : Type 0} (told : V → DeviceTold) where
  -- The outer stream read its device, and what it gave went through the steps of each branch.
  pub record TeesAll (branches : List (List Step)) (n : Node) (devices : List V) (old new : SinkTold) (r : Teeing V) : Type 0 where
    pub home : ℕ → DeviceTold
    pub how : How
    pub given : List Element
    pub end : End
    pub run : IsToldRun no_values home n given end
    pub reported : IsReported end how
    pub comes : ComesHome told Outer n devices home (record { how = how; ledger = r.outcome.ledger; shelf = r.shelf; unopened = r.unopened })
    pub prints : PrintsBranches branches given end how old new r.outcome
