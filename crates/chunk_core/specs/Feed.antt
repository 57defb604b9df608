-- What the calls of a pipe give.
use Rattle.std.specs.Prelude.{◌≡◌, ◌⊎◌, ◌<◌, List, [], ◌++◌, length, Option, None, Some}
use Rattle.chunk_core.specs.Elements.{Element, LoadKind, elements, kind_of}
use Rattle.chunk_core.specs.declared.code.Code.{Code}
use Rattle.chunk_core.specs.declared.feed.Fed.{Fed}
use Rattle.chunk_core.specs.declared.feed.Fed.TheVariants as fed
use Rattle.chunk_core.specs.declared.load.Load.{Load}

-- elements, and then a fault or none
pub record Given : Type 0 where
  pub list : List Element
  pub fault : Option Code

-- a pipe at one kind of input: the kinds that it takes and gives, what it has given of an input that may go on, and what it gives of a whole input
pub record Meaning : Type 0 where
  pub takes : LoadKind
  pub gives : LoadKind
  pub part : List Element → Given
  pub all : List Element → Given

-- the input may go on only where there was no fault
abbrev pub IsSound : (Meaning → List Element → Type 0) → Type 0
IsSound Stands = (m : Meaning) (xs : List Element) → Stands m xs → (m.part xs).fault ≡ None

-- the state stands for an input of loads of this kind
abbrev pub MayFeed : (Meaning → List Element → Type 0) → LoadKind → Type 0
MayFeed Stands kind = (m : Meaning) × (xs : List Element) × Stands m xs × (m.takes ≡ kind)

-- the state stands for an input, or something is still to come
abbrev pub MayFinish : (Meaning → List Element → Type 0) → (LoadKind → List Element → Option Code → Type 0) → Type 0
MayFinish Stands Comes =
    ((m : Meaning) × (xs : List Element) × Stands m xs)
    ⊎ ((kind : LoadKind) × (ys : List Element) × (c : Option Code) × Comes kind ys c)

-- nothing is still to come, whatever the state
abbrev pub NothingComes : {Q : Type 0} → Q → LoadKind → List Element → Option Code → Type 0
NothingComes q kind ys c = (ys ≡ []) × (c ≡ None)

-- the load is what was given of xs and then ys beyond what was given of xs, and so is the fault
pub record Extends (m : Meaning) (xs ys : List Element) (load : Load) (c : Option Code) : Type 0 where
  pub kind : kind_of load ≡ m.gives
  pub list : (m.part xs).list ++ elements load ≡ (m.part (xs ++ ys)).list
  pub fault : (m.part (xs ++ ys)).fault ≡ c

-- the answer to ys after xs
abbrev pub Feeds : Meaning → List Element → List Element → Fed → (List Element → Type 0) → Type 0
Feeds m xs ys (fed.Out load) Stands = Extends m xs ys load None × Stands (xs ++ ys)
Feeds m xs ys fed.End Stands = ⊥
Feeds m xs ys (fed.Fault load c) Stands = Extends m xs ys load (Some c)

-- the answer where ys and then the fault or none are still to come: some of the front of ys, or the end, or all of ys and the fault
abbrev pub Continues : LoadKind → List Element → Option Code → Fed → (List Element → Option Code → Type 0) → Type 0
Continues kind ys c (fed.Out load) Comes =
    (kind_of load ≡ kind) × (0 < length (elements load)) × (rest : List Element) × (ys ≡ elements load ++ rest) × Comes rest c
Continues kind ys c fed.End Comes = (ys ≡ []) × (c ≡ None)
Continues kind ys c (fed.Fault load d) Comes = (kind_of load ≡ kind) × (ys ≡ elements load) × (c ≡ Some d)

-- the first answer where xs is the whole input
pub record Finishes (m : Meaning) (xs : List Element) (answer : Fed) (Comes : List Element → Option Code → Type 0) : Type 0 where
  pub rest : List Element
  pub whole : (m.part xs).list ++ rest ≡ (m.all xs).list
  pub given : Continues m.gives rest (m.all xs).fault answer Comes
