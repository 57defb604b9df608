-- What the state of a chain stands for.
use Rattle.std.specs.Prelude.{◌≡◌, ◌<◌, List, [], ◌∷◌, length, Option, None}
use Rattle.std.proofs.Common.{ap, ◌∙◌, arith, refl}
use Rattle.any_pipe.specs.AnyState as any
use Rattle.any_pipe.specs.Pouring.{AreOf}
use Rattle.any_pipe.specs.declared.state.AnyPipe.{AnyPipe}
use Rattle.chunk_core.specs.Elements.{Element, LoadKind, elements_of}
use Rattle.chunk_core.specs.Elements.LoadKind.{Bytes}
use Rattle.chunk_core.specs.Feed.{Given, IsSound, Meaning}
use Rattle.chunk_core.specs.Outcomes.{Cut, Done}
use Rattle.chunk_core.specs.declared.code.Code.{Code}
use Rattle.pipeline_desc.specs.declared.step.Step.{Step}
use Rattle.pull_nodes.specs.PipeKinds.{stream_kind}
use Rattle.pull_nodes.specs.PipeRule.{without_fault}
use Rattle.chain_pipes.specs.Over.{IsChainMeaning, chain_part, fault_of, given_of, over}
use Rattle.chain_pipes.specs.Links.{LinksStand, given}
use Rattle.chain_pipes.specs.declared.chain.Chain.{Chain}
use Rattle.chain_pipes.specs.declared.chain.Stage.{Stage}
use Rattle.chain_pipes.specs.declared.chain.Stage.TheVariants as stage

-- the stage stands for an input of the steps: each step for what the one before it has given; or a `take` was met, and nothing more comes
abbrev pub StageStands : Stage → List Step → LoadKind → List Element → Type 0
StageStands (stage.Running links) steps gives xs = LinksStand any.StandsFor links steps Bytes gives xs × (chain_part steps xs ≡ without_fault (given steps xs))
StageStands stage.Met steps gives xs = (0 < length xs) × ((over steps xs Cut).end ≡ Done)
StageStands (stage.Ending loads fault) steps gives xs = ⊥

-- the state stands for this input of a chain
abbrev pub StandsFor : Chain → Meaning → List Element → Type 0
StandsFor q m xs = (steps : List Step) × IsChainMeaning steps m × (q.gives ≡ stream_kind m.gives) × StageStands q.stage steps m.gives xs

-- these loads and then this fault or none are still to come
abbrev pub StageComes : Stage → LoadKind → List Element → Option Code → Type 0
StageComes (stage.Running links) kind ys c = ⊥
StageComes stage.Met kind ys c = ⊥
StageComes (stage.Ending loads fault) kind ys c = AreOf kind loads.items × (ys ≡ elements_of loads.items) × (c ≡ fault)

-- the input has ended, and this is still to come
abbrev pub Comes : Chain → LoadKind → List Element → Option Code → Type 0
Comes q kind ys c = (q.gives ≡ stream_kind kind) × StageComes q.stage kind ys c

-- of some input the part is what the steps give of one that was cut
pub part_of_some : (steps : List Step) (xs : List Element) → 0 < length xs → chain_part steps xs ≡ given_of (over steps xs Cut)
part_of_some steps [] h = absurd (omega (arith, h))
part_of_some steps (x ∷ xs) h = refl

stage_sound : (s : Stage) (steps : List Step) (gives : LoadKind) (xs : List Element) → StageStands s steps gives xs → (chain_part steps xs).fault ≡ None
stage_sound (stage.Running links) steps gives xs h = ap (λ (g : Given). g.fault) h.1
stage_sound stage.Met steps gives xs h = ap (λ (g : Given). g.fault) (part_of_some steps xs h.0) ∙ ap fault_of h.1
stage_sound (stage.Ending loads fault) steps gives xs h = absurd h

-- a state that stands for an input has given no fault
pub sound : (q : Chain) → IsSound (StandsFor q)
sound q m xs h = ap (λ (n : Meaning). (n.part xs).fault) h.1.1 ∙ stage_sound q.stage h.0 m.gives xs h.3
