-- What a branch is given, and what it prints.
use Rattle.std.specs.Prelude.{◌≡◌, ◌⊎◌, ℕ, ◌+◌, List, [], ◌∷◌, map}
use Rattle.chunk_core.specs.Elements.{Element, rendering_of}
use Rattle.chunk_core.specs.Outcomes.{End, Done, Fault, Cut}
use Rattle.chunk_core.specs.Texts.{Frame}
use Rattle.chunk_core.specs.declared.code.How.{How}
use Rattle.chunk_core.specs.declared.code.How.TheVariants as how
use Rattle.pull_nodes.specs.Plain.{IsFront}
use Rattle.pipeline_desc.specs.declared.step.Step.{Step}
use Rattle.chain_pipes.specs.Over.{Came, over}
use Rattle.res_ledger.specs.declared.event.StreamNo.TheVariants.{Inner}
use Rattle.run_rules.specs.Outputs.{elements_in_pieces, payloads_by}
use Rattle.run_rules.specs.declared.end.EndOf.{EndOf}

-- Of what the outer stream gave, which ended so, a branch was given a front, and then it was left; or all of a whole one, and the end.
pub record IsInput (given : List Element) (outer : End) (xs : List Element) (e : End) : Type 0 where
  pub front : IsFront xs given
  pub ended : (e ≡ Cut) ⊎ ((e ≡ Done) × (outer ≡ Done) × (xs ≡ given))

-- what a branch whose steps came to this, over an input with this end, prints where it ended so: all, or a front where it was stopped
abbrev pub IsPrinted : How → End → Came → List Element → Type 0
IsPrinted how.Done e c ys = (e ≡ Done) × (c.end ≡ Done) × (ys ≡ c.list)
IsPrinted (how.Fault f) e c ys = (c.end ≡ Fault f) × (ys ≡ c.list)
IsPrinted how.Halted e c ys = IsFront ys c.list
IsPrinted how.Memory e c ys = IsFront ys c.list

module _ (given : List Element) (outer : End) (F : List Frame) where
  -- each frame of branch i renders a piece of what its steps give of its input
  pub record IsBranch (i : ℕ) (steps : List Step) (h : How) : Type 0 where
    pub input : List Element
    pub end : End
    pub is_input : IsInput given outer input end
    pub pieces : List (List Element)
    pub frames : payloads_by i F ≡ map rendering_of pieces
    pub printed : IsPrinted h end (over steps input end) (elements_in_pieces pieces)

  -- so does each branch from i on, with its own end
  abbrev pub AreBranches : ℕ → List (List Step) → List EndOf → Type 0
  AreBranches i [] es = es ≡ []
  AreBranches i (steps ∷ branches) [] = ⊥
  AreBranches i (steps ∷ branches) (e ∷ es) = (e.who ≡ Inner i) × IsBranch i steps e.how × AreBranches (i + 1) branches es
