-- What one turn does.
use Rattle.std.specs.Prelude.{◌≡◌, ◌≢◌, ◌⊎◌, ℕ, ◌+◌, ◌*◌, ◌<◌, ◌≤◌, List, [], ◌++◌, length, Option, Some, Box}
use Rattle.std.specs.Global.{Global}
use Rattle.chunk_core.specs.declared.code.Code.{Code}
use Rattle.chunk_core.specs.declared.code.Code.TheVariants as code
use Rattle.chunk_core.specs.Elements.{Element, LoadKind, elements, kind_of}
use Rattle.chunk_core.specs.declared.load.Load.{Load}
use Rattle.chunk_core.specs.Outcomes.{End, Done, Fault, Outcomes}
use Rattle.device_port.specs.Device.{DeviceTold}
use Rattle.pull_turns.specs.Around.{Around, Goes, Keeps, LiesAsBefore, AllStayWell, gist}
use Rattle.pull_turns.specs.Groups.{GaveGroup}
use Rattle.pull_turns.specs.Piping.{StateMeaning, HasKind, PipesFit}
use Rattle.pull_turns.specs.Rest.{IsRunOfRest, IsLive, IsReady, IsScopeOf, left, rows_left, scopes_left}
use Rattle.stream_sides.specs.Sides.{Sides}
use Rattle.stream_sides.specs.MergeTurns.{MergeTurns}
use Rattle.pull_turns.specs.declared.rest.Rest.{Rest}
use Rattle.pull_turns.specs.declared.rest.Rest.TheVariants.{Nil, Within', Then', Through', Finishing, Faulty, Groups', Take', Into', Zip', Merge'}
use Rattle.pull_nodes.specs.declared.node.Node.{Node}
use Rattle.pull_turns.specs.declared.rest.When.{When}
use Rattle.pull_turns.specs.declared.turn.Turn.{Turn}
use Rattle.pull_turns.specs.declared.turn.Turn.TheVariants as turn

-- each run of the new gives a run of the old, behind these elements
pub record Leads (xs : List Element) (New Old : Outcomes) : Type 0 where
  pub gives : (ys : List Element) (e : End) → New ys e → Old (xs ++ ys) e

-- at the end the devices tell w: those of places that were left, what they tell now
pub record TellsAtEnd {F : Type 0} (now w : ℕ → DeviceTold) (old new : Rest F) : Type 0 where
  pub over : (p : ℕ) → IsLive p old → (IsLive p new → ⊥) → gist (w p) ≡ gist (now p)
  pub goes : (p : ℕ) → Goes (now p) (w p)

-- at the end the devices tell w, and all places were left
pub record Over {F : Type 0} (now w : ℕ → DeviceTold) (old : Rest F) : Type 0 where
  pub over : (p : ℕ) → IsLive p old → gist (w p) ≡ gist (now p)
  pub goes : (p : ℕ) → Goes (now p) (w p)

-- what the turn gave is a front of each run of what was left before, and an end is its end
abbrev pub Gave : {F : Type 0} → StateMeaning F → (ℕ → DeviceTold) → Rest F → Rest F → Turn → Type 0
Gave P now old new (turn.Chunk l) = (0 < length (elements l)) × ((w : ℕ → DeviceTold) → TellsAtEnd now w old new → Leads (elements l) (IsRunOfRest P w new) (IsRunOfRest P w old))
Gave P now old new turn.Quiet = (w : ℕ → DeviceTold) → TellsAtEnd now w old new → Leads [] (IsRunOfRest P w new) (IsRunOfRest P w old)
Gave P now old new turn.Done = (w : ℕ → DeviceTold) → Over now w old → IsRunOfRest P w old [] Done
Gave P now old new (turn.Fault c) = (w : ℕ → DeviceTold) → Over now w old → IsRunOfRest P w old [] (Fault c)

-- more turns may follow
abbrev pub GoesOn : Turn → Type 0
GoesOn (turn.Chunk l) = Unit {0}
GoesOn turn.Quiet = Unit {0}
GoesOn turn.Done = ⊥
GoesOn (turn.Fault c) = ⊥

-- the turn gave nothing, and more turns may follow
abbrev pub IsQuiet : Turn → Type 0
IsQuiet (turn.Chunk l) = ⊥
IsQuiet turn.Quiet = Unit {0}
IsQuiet turn.Done = ⊥
IsQuiet (turn.Fault c) = ⊥

-- the turn gave a load, or it is the end and no fault
abbrev pub IsLoadOrDone : Turn → Type 0
IsLoadOrDone (turn.Chunk l) = Unit {0}
IsLoadOrDone turn.Quiet = ⊥
IsLoadOrDone turn.Done = Unit {0}
IsLoadOrDone (turn.Fault c) = ⊥

-- at most one read was made, of at most n bytes
pub record ReadsOnce (before now : ℕ → DeviceTold) (n : ℕ) : Type 0 where
  pub place : ℕ
  pub others : (q : ℕ) → q ≢ place → ((now q).at ≡ (before q).at) × ((now q).read_faults ≡ (before q).read_faults)
  pub read : (((now place).at ≤ (before place).at + n) × ((now place).read_faults ≡ (before place).read_faults))
      ⊎ (((now place).at ≡ (before place).at) × ((now place).read_faults ≡ (before place).read_faults + 1))

-- a fault of a device has its cause in this turn
pub record HasCause {F : Type 0} (before now : ℕ → DeviceTold) (old : Rest F) (t : Turn) : Type 0 where
  pub open_fault : t ≡ turn.Fault code.Open → (p : ℕ) × IsLive p old × ((before p).open_faults < (now p).open_faults)
  pub read_fault : t ≡ turn.Fault code.Read → (p : ℕ) × IsLive p old × ((before p).read_faults < (now p).read_faults)
  pub write_fault : t ≡ turn.Fault code.Write → (p : ℕ) × IsLive p old × ((before p).write_faults < (now p).write_faults)

-- only devices of what is left were touched, and only what lay within a scope of what is left was closed
pub record Moved {F : Type 0} (before now : Around) (old : Rest F) : Type 0 where
  pub keeps : Keeps before (λ p. IsLive p old) (λ c. IsScopeOf c old) now
  pub goes : (p : ℕ) → Goes (before.told p) (now.told p)

-- the scope c, within which no scope lies that was open, was opened in s or in one of these
pub record IsOpenedIn (before now : Around) (s : ℕ) (Own : ℕ → Type 0) (c : ℕ) : Type 0 where
  pub fresh : (k : ℕ) → before.opened k → now.within k c → ⊥
  pub inside : (k : ℕ) → now.within c k → (k ≡ c) ⊎ ((e : ℕ) × ((e ≡ s) ⊎ Own e) × before.within e k)

-- each scope of what is left was one before, and lies where it lay, or was opened for it
abbrev pub OwnScopes : {F : Type 0} → Around → Around → ℕ → Rest F → Rest F → Type 0
OwnScopes before now s old new = (c : ℕ) → IsScopeOf c new → (IsScopeOf c old × LiesAsBefore before c now) ⊎ IsOpenedIn before now s (λ e. IsScopeOf e old) c

-- there is as much room beyond what is left as there was
pub record Spends {F : Type 0} (before now : Around) (old new : Rest F) : Type 0 where
  pub events : before.events + 2 * rows_left new + 2 * scopes_left new ≤ now.events + 2 * rows_left old + 2 * scopes_left old
  pub scopes : before.scopes + scopes_left new ≤ now.scopes + scopes_left old
  pub rows : before.rows + rows_left new ≤ now.rows + rows_left old

-- no more room was used than what was left could need
abbrev pub SpendsWithin : {F : Type 0} → Around → Around → Rest F → Type 0
SpendsWithin before now old = Spends before now old Nil

-- the load is of the kind of all loads that may come, and so is what may come after it
abbrev pub GivesKind : {F : Type 0} → StateMeaning F → LoadKind → Rest F → Turn → Type 0
GivesKind P k new (turn.Chunk l) = (kind_of l ≡ k) × HasKind P k new
GivesKind P k new turn.Quiet = HasKind P k new
GivesKind P k new turn.Done = Unit {0}
GivesKind P k new (turn.Fault c) = Unit {0}

module _ {F : Type 0} (P : StateMeaning F) where
  -- of all that was still to come of a pipe, some elements at its front came, and the rest is still to come
  abbrev pub GaveNext : F → F → Type 0
  GaveNext q r = (k : LoadKind) (ys : List Element) (c : Option Code) → P.comes q k ys c
      → (zs rest : List Element) × (0 < length zs) × (ys ≡ zs ++ rest) × P.comes r k rest c

  -- all elements that were still to come of a pipe came, at least one, and this fault is still to come
  abbrev pub GaveLast : F → Code → Type 0
  GaveLast q d = (k : LoadKind) (ys : List Element) (c : Option Code) → P.comes q k ys c → (0 < length ys) × (c ≡ Some d)

  -- a pipe whose input had ended before gave a load
  pub data HasFinished : Rest F → Rest F → Type 0 where
    next : (q r : F) → GaveNext q r → HasFinished (Finishing q) (Finishing r)
    last : (q : F) (d : Code) → GaveLast q d → HasFinished (Finishing q) (Faulty d)
    within : (c : ℕ) (p q : Box (Unit {0}) Global) (a b : Rest F) → HasFinished a b → HasFinished (Within' c p a) (Within' c q b)
    first : (w : When) (p q : Box (Unit {0}) Global) (a b : Rest F) (m : Box Node Global) → HasFinished a b → HasFinished (Then' w p a m) (Then' w q b m)
    through : (p q : Box (Unit {0}) Global) (a b : Rest F) (s t : F) → HasFinished a b → HasFinished (Through' p a s) (Through' q b t)
    grouped : (n : ℕ) (p q : Box (Unit {0}) Global) (a b : Rest F) (f g : Option Load) → HasFinished a b → HasFinished (Groups' n f p a) (Groups' n g q b)
    taken : (i j : ℕ) (p q : Box (Unit {0}) Global) (a b : Rest F) → HasFinished a b → HasFinished (Take' i p a) (Take' j q b)
    written : (i : ℕ) (v z : Option (List ℕ)) (p q : Box (Unit {0}) Global) (a b : Rest F) → HasFinished a b → HasFinished (Into' i v p a) (Into' i z q b)
    zip_left : (y z : Sides) (p q u v : Box (Unit {0}) Global) (a b r : Rest F) → HasFinished a b → HasFinished (Zip' y p a q r) (Zip' z u b v r)
    zip_right : (y z : Sides) (p q u v : Box (Unit {0}) Global) (r a b : Rest F) → HasFinished a b → HasFinished (Zip' y p r q a) (Zip' z u r v b)
    merge_left : (m n : MergeTurns) (p q u v : Box (Unit {0}) Global) (a b r : Rest F) → HasFinished a b → HasFinished (Merge' m p a q r) (Merge' n u b v r)
    merge_right : (m n : MergeTurns) (p q u v : Box (Unit {0}) Global) (r a b : Rest F) → HasFinished a b → HasFinished (Merge' m p r q a) (Merge' n u r v b)

  -- a turn has one of three causes: a node was entered or left, a device gave a byte, or a pipe whose input has ended gave a load
  abbrev pub TurnIsCaused : (ℕ → DeviceTold) → (ℕ → DeviceTold) → Rest F → Rest F → Type 0
  TurnIsCaused before now old new =
      (left new < left old)
      ⊎ ((p : ℕ) × IsLive p old × ((before p).at < (now p).at))
      ⊎ HasFinished old new

  -- a turn that gives nothing has one of the three causes, and a chunk too, or it is of the groups that waited
  abbrev pub IsCausedBy : (ℕ → DeviceTold) → (ℕ → DeviceTold) → Rest F → Rest F → Turn → Type 0
  IsCausedBy before now old new (turn.Chunk l) = TurnIsCaused before now old new ⊎ GaveGroup (elements l) old new
  IsCausedBy before now old new turn.Quiet = TurnIsCaused before now old new
  IsCausedBy before now old new turn.Done = Unit {0}
  IsCausedBy before now old new (turn.Fault c) = Unit {0}

  -- a turn was made in the scope s, with reads of at most n bytes; one that gave a load, or is the end and no fault, wrote nothing, and nothing failed in it
  pub record Turned (before now : Around) (s n : ℕ) (old new : Rest F) (t : Turn) : Type 0 where
    pub moved : Moved before now old
    pub once : ReadsOnce before.told now.told n
    pub writes : IsLoadOrDone t → AllStayWell before.told now.told
    pub live : (p : ℕ) → IsLive p new → IsLive p old
    pub fewer : left new ≤ left old
    pub spends : Spends before now old new
    pub ready : GoesOn t → IsReady now s new
    pub scopes : GoesOn t → OwnScopes before now s old new
    pub pipes : GoesOn t → PipesFit P new
    pub kinds : (k : LoadKind) → HasKind P k old → GivesKind P k new t
    pub caused : IsCausedBy before.told now.told old new t
    pub cause : HasCause before.told now.told old t
    pub gave : Gave P now.told old new t
