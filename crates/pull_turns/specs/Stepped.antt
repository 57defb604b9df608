-- What a turn leaves, whole.
use Rattle.std.specs.Prelude.{◌≡◌, ℕ, Bool, true, false}
use Rattle.pull_nodes.specs.declared.node.Node.{Node}
use Rattle.pull_nodes.specs.declared.node.Node.TheVariants as node
use Rattle.pull_turns.specs.Around.{Around, AllStayWell}
use Rattle.pull_turns.specs.Failures.{TurnTells}
use Rattle.pull_turns.specs.Groups.{Grouped, HasNoGroups}
use Rattle.pull_turns.specs.Piping.{StateMeaning}
use Rattle.pull_turns.specs.Scoped.{Scoped}
use Rattle.pull_turns.specs.Sizes.{HasNoPipe, Sized, given}
use Rattle.pull_turns.specs.Turned.{Moved, SpendsWithin, Turned}
use Rattle.pull_turns.specs.Work.{Lessens}
use Rattle.pull_turns.specs.declared.rest.Rest.{Rest}
use Rattle.pull_turns.specs.declared.rest.Rest.TheVariants.{Nil, Start, Read, Finishing, Faulty}
use Rattle.pull_turns.specs.declared.turn.Turn.{Turn}

-- all that is told of a turn in the scope s, with reads of at most n bytes; where a step above gets each load whole, no part is grouped
pub record Stepped {F : Type 0} (P : StateMeaning F) (due : F → ℕ) (before now : Around) (s n : ℕ) (above : Bool) (old new : Rest F) (t : Turn) : Type 0 where
  pub turned : Turned P before now s n old new t
  pub work : Lessens due old new t
  pub sized : HasNoPipe old → Sized n old new (given t)
  pub whole : above ≡ true → HasNoGroups new
  pub grouped : above ≡ false → Grouped old new t
  pub scoped : Scoped P before now s old new t
  pub failures : TurnTells now.told old new t

-- all that is told of a turn that found no memory
pub record Broken {F : Type 0} (before now : Around) (old : Rest F) : Type 0 where
  pub unwritten : AllStayWell before.told now.told
  pub spent : SpendsWithin before now old
  pub stopped : Moved before now old

-- no part is below this one
abbrev pub IsLeaf : {F : Type 0} → Rest F → Type 0
IsLeaf Nil = Unit {0}
IsLeaf (Start n) = Unit {0}
IsLeaf (Read p from) = Unit {0}
IsLeaf (Finishing q) = Unit {0}
IsLeaf (Faulty c) = Unit {0}
IsLeaf r = ⊥

-- no device and no scope is opened where the node is entered
abbrev pub OpensNothing : Node → Type 0
OpensNothing (node.Weak' p _ n) = ⊥
OpensNothing (node.Scope' _ n) = ⊥
OpensNothing n = Unit {0}
