-- What comes of a pipe that is fed a list of loads and then the end.
use Rattle.std.specs.Prelude.{◌≡◌, List, ◌++◌, All, IsSome, Option, Some, None}
use Rattle.chunk_core.specs.Elements.{Element, LoadKind, elements_of, kind_of}
use Rattle.chunk_core.specs.Feed.{Given, Meaning}
use Rattle.chunk_core.specs.declared.code.Code.{Code}
use Rattle.chunk_core.specs.declared.load.Load.{Load}
use Rattle.pull_nodes.specs.PipeKinds.{gives_of}
use Rattle.pull_nodes.specs.declared.pipe.Pipe.{Pipe}

-- each is a load of this kind
abbrev pub AreOf : LoadKind → List Load → Type 0
AreOf kind loads = All (λ load. kind_of load ≡ kind) loads

-- the loads are of one kind, which the pipe takes
abbrev pub TakesLoads : Pipe → List Load → Type 0
TakesLoads p loads = (kind : LoadKind) × IsSome (gives_of p kind) × AreOf kind loads

-- the state stands for an input that may go on with these loads
abbrev pub MayPour : (Meaning → List Element → Type 0) → List Load → Type 0
MayPour Stands loads = (m : Meaning) × (xs : List Element) × Stands m xs × AreOf m.takes loads

-- the state stands for an input
abbrev pub MayEnd : (Meaning → List Element → Type 0) → Type 0
MayEnd Stands = (m : Meaning) × (xs : List Element) × Stands m xs

-- beyond what was given of xs, these loads and then this fault or none make up this
pub record MakesUp (m : Meaning) (xs : List Element) (given : List Load) (c : Option Code) (whole : Given) : Type 0 where
  pub kinds : AreOf m.gives given
  pub list : (m.part xs).list ++ elements_of given ≡ whole.list
  pub fault : c ≡ whole.fault

-- a fault came before the end: no more than a front of the loads behind xs was fed
pub record StopsAtFault (m : Meaning) (xs : List Element) (loads given : List Load) (c : Code) : Type 0 where
  pub front : List Load
  pub unfed : List Load
  pub whole : loads ≡ front ++ unfed
  pub made : MakesUp m xs given (Some c) (m.part (xs ++ elements_of front))

-- the loads were fed behind xs, up to a fault
abbrev pub FeedsAll : Meaning → List Element → List Load → List Load → Option Code → (List Element → Type 0) → Type 0
FeedsAll m xs loads given None Stands = MakesUp m xs given None (m.part (xs ++ elements_of loads)) × Stands (xs ++ elements_of loads)
FeedsAll m xs loads given (Some c) Stands = StopsAtFault m xs loads given c

-- where xs is the whole input, all that was still to come came behind the loads before
pub record FinishesAll (m : Meaning) (xs : List Element) (before given : List Load) (fault : Option Code) : Type 0 where
  pub rest : List Load
  pub whole : given ≡ before ++ rest
  pub made : MakesUp m xs rest fault (m.all xs)

-- the loads were fed behind xs and then the end was told: what came is what the pipe gives of the whole input, or of what was fed where a fault came before the end
pub data Pours (m : Meaning) (xs : List Element) (loads given : List Load) (fault : Option Code) : Type 0 where
  whole : MakesUp m xs given fault (m.all (xs ++ elements_of loads)) → Pours m xs loads given fault
  broken : (c : Code) → fault ≡ Some c → StopsAtFault m xs loads given c → Pours m xs loads given fault
