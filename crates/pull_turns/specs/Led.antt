-- Several turns.
use Rattle.std.specs.Prelude.{◌≡◌, ℕ, zero, suc, ◌<◌, ◌≤◌, false, List, [], ◌∷◌, ◌++◌, length, Option, Some, None}
use Rattle.chunk_core.specs.declared.code.How.{How}
use Rattle.chunk_core.specs.declared.code.How.TheVariants as how
use Rattle.chunk_core.specs.declared.load.Load.{Load}
use Rattle.chunk_core.specs.Elements.{Element, LoadKind, elements, kind_of}
use Rattle.chunk_core.specs.Outcomes.{End, Done, Fault, Cut, exit_of}
use Rattle.device_port.specs.Device.{DeviceTold}
use Rattle.pull_turns.specs.Around.{Around, Goes, IsClosedWith, AllStayWell, gist}
use Rattle.pull_turns.specs.Groups.{Grouped, IsGrouped}
use Rattle.pull_turns.specs.Piping.{StateMeaning, HasKind}
use Rattle.pull_turns.specs.Failures.{IsToldRunOfRest, TellsOn, TurnTells}
use Rattle.pull_turns.specs.Rest.{IsRunOfRest, IsLive, CanStep, left}
use Rattle.pull_turns.specs.Turned.{Leads, TellsAtEnd, Over, ReadsOnce, HasCause, Gave, GivesKind, GoesOn, IsCausedBy, IsLoadOrDone, Spends}
use Rattle.pull_turns.specs.Moves.{how_of}
use Rattle.pull_turns.specs.Scoped.{ClosesAtEnd, Scoped}
use Rattle.pull_turns.specs.declared.rest.Rest.{Rest}
use Rattle.pull_turns.specs.declared.turn.Turn.{Turn}
use Rattle.pull_turns.specs.declared.turn.Turn.TheVariants as turn
use Rattle.pull_turns.specs.declared.runner.Unconsed.{Unconsed}
use Rattle.pull_turns.specs.declared.runner.Unconsed.TheVariants as unconsed

-- no scope is open, and no device
pub record IsShut (a : Around) : Type 0 where
  pub scopes : (k : ℕ) → a.opened k → ⊥
  pub devices : (p : ℕ) → (a.told p).is_open ≡ false

-- only devices of what was left were touched
pub record TouchesOnly {F : Type 0} (before now : ℕ → DeviceTold) (old : Rest F) : Type 0 where
  pub goes : (p : ℕ) → Goes (before p) (now p)
  pub others : (p : ℕ) → (IsLive p old → ⊥) → gist (now p) ≡ gist (before p)

-- whoever ran what was left may leave it now: it gave nothing, and was cut
abbrev pub CanBeCut : {F : Type 0} → StateMeaning F → (ℕ → DeviceTold) → Rest F → Type 0
CanBeCut P now old = (w : ℕ → DeviceTold) → Over now w old → IsToldRunOfRest P w old [] Cut

-- the end of a run that ended so
abbrev pub end_of : How → End
end_of how.Done = Done
end_of (how.Fault c) = Fault c
end_of how.Halted = Cut
end_of how.Memory = Cut

-- the end of a run, or none yet
abbrev pub end_by : Option How → End
end_by (Some h) = end_of h
end_by None = Cut

-- the load that a turn gives, or none
abbrev pub loads_of : Turn → List Load
loads_of (turn.Chunk l) = l ∷ []
loads_of turn.Quiet = []
loads_of turn.Done = []
loads_of (turn.Fault c) = []

module _ {F : Type 0} (P : StateMeaning F) where
  -- a turn of the whole was made, with reads of at most n bytes; at an end each scope and each device is closed, the root with the exit of that end
  pub record Turns (before now : Around) (n : ℕ) (old new : Rest F) (t : Turn) : Type 0 where
    pub tells : TouchesOnly before.told now.told old
    pub once : ReadsOnce before.told now.told n
    pub writes : IsLoadOrDone t → AllStayWell before.told now.told
    pub live : (p : ℕ) → IsLive p new → IsLive p old
    pub fewer : left new ≤ left old
    pub spends : Spends before now old new
    pub can : GoesOn t → CanStep P now 0 new
    pub shut : (GoesOn t → ⊥) → IsShut now
    pub closed : ClosesAtEnd now 0 t
    pub scoped : Scoped P before now 0 old new t
    pub failures : TurnTells now.told old new t
    pub kinds : (k : LoadKind) → HasKind P k old → GivesKind P k new t
    pub caused : IsCausedBy P before.told now.told old new t
    pub grouped : Grouped old new t
    pub cause : HasCause before.told now.told old t
    pub gave : Gave P now.told old new t

  -- since the start turns gave these elements
  pub record Led (before now : ℕ → DeviceTold) (start rest : Rest F) (xs : List Element) : Type 0 where
    pub tells : TouchesOnly before now start
    pub live : (p : ℕ) → IsLive p rest → IsLive p start
    pub kinds : (k : LoadKind) → HasKind P k start → HasKind P k rest
    pub grouped : (k : ℕ) → IsGrouped k start → IsGrouped k rest
    pub lead : (w : ℕ → DeviceTold) → TellsAtEnd now w start rest → Leads xs (IsRunOfRest P w rest) (IsRunOfRest P w start)
    pub failures : TellsOn now start rest

  module _ {O : Type 0} (seen : O → Around) (n : ℕ) where
    -- so many turns were made, with reads of at most n bytes; none was the end, and they gave these loads
    abbrev pub GoesOnFor : ℕ → O → Rest F → O → Rest F → List Load → Type 0
    GoesOnFor zero a old b new loads = (b ≡ a) × (new ≡ old) × (loads ≡ [])
    GoesOnFor (suc k) a old b new loads =
        (mid : O) × (rest : Rest F) × (given : List Load) × (t : Turn)
        × GoesOnFor k a old mid rest given × Turns (seen mid) (seen b) n rest new t × GoesOn t × (loads ≡ given ++ loads_of t)

    -- turns that gave nothing were made, fewer than k, and then this one
    abbrev pub ComesWithin : ℕ → O → Rest F → O → Rest F → Turn → Type 0
    ComesWithin k a old b new t = (i : ℕ) × (i < k) × (mid : O) × (rest : Rest F) × GoesOnFor i a old mid rest [] × Turns (seen mid) (seen b) n rest new t

    -- the first load that comes, the end, or as many turns as asked for, each of which gave nothing
    abbrev pub Uncons : ℕ → O → O → Rest F → Rest F → Option How → Unconsed → Type 0
    Uncons k a b old new h (unconsed.Chunk l) =
        (0 < length (elements l)) × (h ≡ None) × CanStep P (seen b) 0 new × Led (seen a).told (seen b).told old new (elements l)
        × ((kind : LoadKind) → HasKind P kind old → kind_of l ≡ kind) × ComesWithin k a old b new (turn.Chunk l)
        × ((j : ℕ) → IsGrouped j old → length (elements l) ≤ j)
    Uncons k a b old new h (unconsed.End e) =
        (h ≡ Some e) × IsShut (seen b) × IsClosedWith (seen b) 0 (exit_of e) × TouchesOnly (seen a).told (seen b).told old × ((w : ℕ → DeviceTold) → Over (seen b).told w old → IsToldRunOfRest P w old [] (end_of e))
        × ((t : Turn) × (how_of t ≡ Some e) × ComesWithin k a old b new t)
    Uncons k a b old new h unconsed.Again =
        GoesOnFor k a old b new [] × (h ≡ None) × CanStep P (seen b) 0 new × Led (seen a).told (seen b).told old new []
