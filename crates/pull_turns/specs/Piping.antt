-- The pipes in what is left of a node: what their states stand for, which kinds of loads come to them, and what they still give.
use Rattle.std.specs.Prelude.{◌≡◌, ◌⊎◌, List, [], ◌++◌, Option, Some}
use Rattle.chunk_core.specs.declared.code.Code.{Code}
use Rattle.chunk_core.specs.Elements.{Element, LoadKind, kind_of}
use Rattle.chunk_core.specs.Elements.LoadKind.{Bytes, Lines, Rows}
use Rattle.chunk_core.specs.Feed.{Meaning, MayFeed, MayFinish}
use Rattle.chunk_core.specs.Outcomes.{End, Outcomes}
use Rattle.pull_nodes.specs.Laws.{IsNoDeviceFault}
use Rattle.pull_nodes.specs.Pipes.{IsMeaningOver}
use Rattle.pull_nodes.specs.Runs.{GivesBy}
use Rattle.chunk_core.specs.Tables.{Values}
use Rattle.pull_nodes.specs.Shape.{folded}
use Rattle.pull_nodes.specs.declared.node.Node.{Node}
use Rattle.pull_nodes.specs.declared.node.Node.TheVariants as node
use Rattle.pull_nodes.specs.declared.pipe.Pipe.{Pipe}
use Rattle.pull_turns.specs.Groups.{IsOfKind}
use Rattle.pull_turns.specs.Shape.{rest_folded}
use Rattle.pull_turns.specs.declared.rest.Rest.{Rest}
use Rattle.pull_turns.specs.declared.rest.Rest.TheVariants.{Nil, Start, Read, Within', Then', Through', Finishing, Faulty, Groups', Take', Into', Zip', Merge'}
use Rattle.pull_turns.specs.declared.turn.Turn.{Turn}
use Rattle.pull_turns.specs.declared.turn.Turn.TheVariants as turn

-- for which inputs of which pipes a state stands, what is still to come of a pipe whose input has ended, and the values of the tables in which pipes look up
pub record StateMeaning (F : Type 0) : Type 1 where
  pub stands : F → Meaning → List Element → Type 0
  pub comes : F → LoadKind → List Element → Option Code → Type 0
  pub values : Values

abbrev pub standing : {F : Type 0} → (F → Meaning → List Element → Type 0) → (F → LoadKind → List Element → Option Code → Type 0) → Values → StateMeaning F
standing stands comes values = record { stands = stands; comes = comes; values = values }

-- what a node's own loads ask, where this is asked of its parts: no load comes through a pipe that gets none and makes nothing of nothing
abbrev pub HasKindAt : Values → Node → (LoadKind → Type 0) → LoadKind → Type 0
HasKindAt v (node.Emit l) Q k = kind_of l ≡ k
HasKindAt v (node.Read p) Q k = k ≡ Bytes
HasKindAt v (node.Through' _ a q) Q k =
    ((m : Meaning) × IsMeaningOver v q m × Q m.takes × (m.gives ≡ k))
    ⊎ (((j : LoadKind) → Q j) × ((m : Meaning) × IsMeaningOver v q m × ((m.all []).list ≡ [])))
HasKindAt v (node.Into' p _ a) Q k = Unit {0}
HasKindAt v (node.Zip' _ a _ b) Q k = k ≡ Rows
HasKindAt v n Q k = Q k

-- each load that the node may give is of this kind
abbrev pub HasKindOf : Values → LoadKind → Node → Type 0
HasKindOf v k n = folded (λ k. Unit {0}) (λ Q R k. Q k × R k) (HasKindAt v) n k

-- what a pipe and a pairing ask beside what their parts do
abbrev pub PipesFitAt : Values → Node → Type 0 → Type 0
PipesFitAt v (node.Through' _ a q) Q = Q × ((m : Meaning) × IsMeaningOver v q m × HasKindOf v m.takes a)
PipesFitAt v (node.Zip' _ a _ b) Q = Q × HasKindOf v Lines a × HasKindOf v Lines b
PipesFitAt v n Q = Q

-- each pipe of the node takes the kind of the loads that come to it, and what is paired is lines
abbrev pub PipesFitOf : Values → Node → Type 0
PipesFitOf v n = folded (Unit {0}) (λ Q R. Q × R) (PipesFitAt v) n

-- what a pipe of this meaning gives of xs and then of what A gives, beyond what it gave of xs
abbrev pub PipedOn : Meaning → List Element → Outcomes → Outcomes
PipedOn m xs A ys e = (zs : List Element) × (g : End) × A zs g × GivesBy (m.part (xs ++ zs)).fault m.part m.all (xs ++ zs) g ((m.part xs).list ++ ys) e

-- these elements, and behind them what A gives
abbrev pub Behind : List Element → Outcomes → Outcomes
Behind xs A ys e = (zs : List Element) × A zs e × (ys ≡ xs ++ zs)

module _ {F : Type 0} (P : StateMeaning F) where
  -- the state stands for a pipe that makes nothing of nothing
  abbrev pub GivesNothing : F → Type 0
  GivesNothing q = (m : Meaning) × P.stands q m [] × ((m.all []).list ≡ [])

  -- what the loads of a part itself ask, where this is asked of its parts
  abbrev pub HasRestKindAt : Rest F → (LoadKind → Type 0) → LoadKind → Type 0
  HasRestKindAt (Read p from) Q k = k ≡ Bytes
  HasRestKindAt (Through' _ a q) Q k = ((m : Meaning) × (xs : List Element) × P.stands q m xs × Q m.takes × (m.gives ≡ k)) ⊎ (((j : LoadKind) → Q j) × GivesNothing q)
  HasRestKindAt (Finishing q) Q k = ((ys : List Element) × (c : Option Code) × P.comes q k ys c) ⊎ ((j : LoadKind) × (c : Option Code) × P.comes q j [] c)
  HasRestKindAt (Groups' n f _ a) Q k = IsOfKind k f × Q k
  HasRestKindAt (Into' p v _ a) Q k = Unit {0}
  HasRestKindAt (Zip' z _ a _ b) Q k = k ≡ Rows
  HasRestKindAt r Q k = Q k

  -- each load that may still come is of this kind
  abbrev pub HasKind : LoadKind → Rest F → Type 0
  HasKind k r = rest_folded (λ k. Unit {0}) (λ Q R k. Q k × R k) (λ n k. HasKindOf P.values k n) HasRestKindAt r k

  -- the state stands for an input of a pipe that takes what is left below it
  abbrev pub PipeStands : F → Rest F → Type 0
  PipeStands q a = (p : Pipe) × (m : Meaning) × (xs : List Element) × IsMeaningOver P.values p m × P.stands q m xs × HasKind m.takes a

  -- something is still to come of a pipe whose input has ended
  abbrev pub Comes : F → Type 0
  Comes q = (k : LoadKind) × (ys : List Element) × (c : Option Code) × P.comes q k ys c × IsNoDeviceFault c

  -- what a pipe, its end, a fault and a pairing ask beside what their parts do
  abbrev pub RestPipesFitAt : Rest F → Type 0 → Type 0
  RestPipesFitAt (Through' _ a q) Q = Q × PipeStands q a
  RestPipesFitAt (Finishing q) Q = Comes q
  RestPipesFitAt (Faulty c) Q = IsNoDeviceFault (Some c)
  RestPipesFitAt (Zip' z _ a _ b) Q = Q × HasKind Lines a × HasKind Lines b
  RestPipesFitAt r Q = Q

  -- each pipe takes the kind of the loads that come to it, and what is paired is lines
  abbrev pub PipesFit : Rest F → Type 0
  PipesFit r = rest_folded (Unit {0}) (λ Q R. Q × R) (PipesFitOf P.values) RestPipesFitAt r

  -- the pipe may be told of the end of its input, or asked for more after it
  abbrev pub PipeCanFinish : F → Type 0
  PipeCanFinish q = MayFinish (P.stands q) (P.comes q)

  -- the pipe may get what this turn of what is below it gave
  abbrev pub CanPass : F → Turn → Type 0
  CanPass q (turn.Chunk l) = MayFeed (P.stands q) (kind_of l)
  CanPass q turn.Quiet = Unit {0}
  CanPass q turn.Done = PipeCanFinish q
  CanPass q (turn.Fault c) = Unit {0}
