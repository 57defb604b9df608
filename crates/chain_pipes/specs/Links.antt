-- What the states of steps stand for, one behind another, and what passes through them.
use Rattle.std.specs.Prelude.{◌≡◌, ℕ, ◌+◌, List, [], ◌∷◌, ◌++◌, length, Option, Some, None}
use Rattle.chunk_core.specs.Elements.{Element, LoadKind, elements_of}
use Rattle.chunk_core.specs.Feed.{Meaning}
use Rattle.chunk_core.specs.Outcomes.{Cut, Done, End, Fault}
use Rattle.chunk_core.specs.Tables.{no_values}
use Rattle.chunk_core.specs.declared.code.Code.{Code}
use Rattle.chunk_core.specs.declared.load.Load.{Load}
use Rattle.any_pipe.specs.Pouring.{AreOf}
use Rattle.pipeline_desc.specs.declared.step.Step.{Step}
use Rattle.pipeline_desc.specs.declared.step.Step.TheVariants as step
use Rattle.pull_nodes.specs.PipeKinds.{gives_of, stream_kind}
use Rattle.pull_nodes.specs.declared.kind.Kind.{Kind}
use Rattle.pull_nodes.specs.Pipes.{meaning, part_of}
use Rattle.step_words.specs.Words.{kind_behind}
use Rattle.chain_pipes.specs.Over.{Came, came, over, step_over, through}
use Rattle.chain_pipes.specs.declared.batch.Batch.{Batch}
use Rattle.chain_pipes.specs.declared.batch.Tail.{Tail}
use Rattle.chain_pipes.specs.declared.batch.Tail.TheVariants as tail
use Rattle.chain_pipes.specs.declared.link.Link.{Link}
use Rattle.chain_pipes.specs.declared.link.Link.TheVariants as link
use Rattle.chain_pipes.specs.declared.link.Links.{Links}
use Rattle.chain_pipes.specs.declared.link.Links.TheVariants.{Nil, Then'}

-- the end that follows loads
abbrev pub end_of : Tail → End
end_of tail.More = Cut
end_of tail.End = Done
end_of (tail.Fault c) = Fault c

-- what follows loads that came of a whole input, with this fault or none
abbrev pub tail_of : Option Code → Tail
tail_of None = tail.End
tail_of (Some c) = tail.Fault c

-- what a step has given of elements that may go on, where no `take` was met
abbrev pub step_given : Step → List Element → List Element
step_given (step.Take n) xs = xs
step_given (step.Pipe p) xs = (part_of no_values p xs).list

-- the same of steps, one behind another
abbrev pub given : List Step → List Element → List Element
given [] xs = xs
given (s ∷ ss) xs = given ss (step_given s xs)

module _ {F : Type 0} (Stands : F → Meaning → List Element → Type 0) where
  -- the state of a step stands for an input of this kind
  abbrev pub LinkStands : Link F → Step → LoadKind → LoadKind → List Element → Type 0
  LinkStands (link.Pipe q) (step.Pipe p) takes gives xs = (gives_of p takes ≡ Some gives) × Stands q (meaning p takes gives) xs
  LinkStands (link.Pipe q) (step.Take n) takes gives xs = ⊥
  LinkStands (link.Take w) (step.Pipe p) takes gives xs = ⊥
  LinkStands (link.Take w) (step.Take n) takes gives xs = (gives ≡ takes) × (n ≡ length xs + w)

  -- so do those of steps, each for what the one before it has given
  abbrev pub LinksStand : Links F → List Step → LoadKind → LoadKind → List Element → Type 0
  LinksStand Nil [] takes gives xs = gives ≡ takes
  LinksStand Nil (s ∷ ss) takes gives xs = ⊥
  LinksStand (Then' l _ ls) [] takes gives xs = ⊥
  LinksStand (Then' l _ ls) (s ∷ ss) takes gives xs = (mid : LoadKind) × LinkStands l s takes mid xs × LinksStand ls ss mid gives (step_given s xs)

  -- the state of a step was fed nothing
  abbrev pub IsFresh : Link F → Step → Type 0
  IsFresh (link.Pipe q) (step.Pipe p) = (takes gives : LoadKind) → gives_of p takes ≡ Some gives → Stands q (meaning p takes gives) []
  IsFresh (link.Pipe q) (step.Take n) = ⊥
  IsFresh (link.Take w) (step.Pipe p) = ⊥
  IsFresh (link.Take w) (step.Take n) = w ≡ n

  -- so were those of steps
  abbrev pub AreFresh : Links F → List Step → Type 0
  AreFresh Nil [] = Unit {0}
  AreFresh Nil (s ∷ ss) = ⊥
  AreFresh (Then' l _ ls) [] = ⊥
  AreFresh (Then' l _ ls) (s ∷ ss) = IsFresh l s × AreFresh ls ss

  -- the state of a step stands for an input that may go on with these loads
  abbrev pub MayPassLink : Link F → List Load → Type 0
  MayPassLink l loads = (s : Step) × (takes gives : LoadKind) × (xs : List Element) × LinkStands l s takes gives xs × AreOf takes loads

  -- so do those of steps
  abbrev pub MayPass : Links F → List Load → Type 0
  MayPass ls loads = (ss : List Step) × (takes gives : LoadKind) × (xs : List Element) × LinksStand ls ss takes gives xs × AreOf takes loads

-- a stream of this kind is one of loads of the kind j, and behind the steps there are loads of the kind k
abbrev pub KindsFit : List Step → Kind → LoadKind → LoadKind → Type 0
KindsFit steps kind j k = (kind ≡ stream_kind j) × (kind_behind steps j ≡ Some k)

-- more may come: it may have come before too, the new state stands for what came, and what was given of that goes on with these elements
pub record GoesOn (e : End) (Stands : Type 0) (before zs after : List Element) : Type 0 where
  pub cut : e ≡ Cut
  pub stands : Stands
  pub list : before ++ zs ≡ after

-- the loads are what the whole has beyond what was given before, and so is its end
pub record Passes (gives : LoadKind) (before : List Element) (whole : Came) (b : Batch) (Goes : Type 0) : Type 0 where
  pub kinds : AreOf gives b.loads.items
  pub made : whole ≡ came (before ++ elements_of b.loads.items) (end_of b.tail)
  pub goes : end_of b.tail ≡ Cut → Goes

-- what a pipe gives of elements that ended so
abbrev pub pipe_over : Meaning → List Element → End → Came
pipe_over m xs e = through (m.part xs).fault (m.part xs) (m.all xs) e

-- these loads passed through a pipe that stood for xs
abbrev pub PassesPipe : Meaning → List Element → Batch → Batch → (List Element → Type 0) → Type 0
PassesPipe m xs b r Stands =
    Passes m.gives (m.part xs).list (pipe_over m (xs ++ elements_of b.loads.items) (end_of b.tail)) r
    (GoesOn (end_of b.tail) (Stands (xs ++ elements_of b.loads.items)) (m.part xs).list (elements_of r.loads.items) (m.part (xs ++ elements_of b.loads.items)).list)

-- these loads passed through a step whose state stood for xs
abbrev pub PassesStep : Step → LoadKind → List Element → Batch → Batch → (List Element → Type 0) → Type 0
PassesStep s gives xs b r Stands =
    Passes gives (step_given s xs) (step_over s (xs ++ elements_of b.loads.items) (end_of b.tail)) r
    (GoesOn (end_of b.tail) (Stands (xs ++ elements_of b.loads.items)) (step_given s xs) (elements_of r.loads.items) (step_given s (xs ++ elements_of b.loads.items)))

-- these loads passed through steps whose states stood for xs
abbrev pub PassesSteps : List Step → LoadKind → List Element → Batch → Batch → (List Element → Type 0) → Type 0
PassesSteps ss gives xs b r Stands =
    Passes gives (given ss xs) (over ss (xs ++ elements_of b.loads.items) (end_of b.tail)) r
    (GoesOn (end_of b.tail) (Stands (xs ++ elements_of b.loads.items)) (given ss xs) (elements_of r.loads.items) (given ss (xs ++ elements_of b.loads.items)))
