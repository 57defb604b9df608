-- How the end of a node tells of the acts on its devices that failed.
use Rattle.std.specs.Prelude.{◌≡◌, ◌⊎◌, ℕ}
use Rattle.chunk_core.specs.declared.code.Code.{Code}
use Rattle.chunk_core.specs.declared.code.Code.TheVariants as code
use Rattle.chunk_core.specs.Outcomes.{End, Done, Fault, Cut, Outcomes}
use Rattle.chunk_core.specs.Tables.{Values}
use Rattle.device_port.specs.Device.{DeviceTold}
use Rattle.pull_nodes.specs.Runs.{IsFault, IsRun}
use Rattle.pull_nodes.specs.Shape.{folded}
use Rattle.pull_nodes.specs.declared.node.Node.{Node}
use Rattle.pull_nodes.specs.declared.node.Node.TheVariants.{Nil, Emit, Raise, Read, Weak', Scope', Append', OnFault', Through', Take', Zip', Merge', Into'}

-- what the node itself does with a device didn't fail
abbrev pub UnfailedAt : (ℕ → DeviceTold) → Node → Type 0 → Type 0
UnfailedAt w (Read p) Q = (w p).read_faults ≡ 0
UnfailedAt w (Weak' p _ a) Q = ((w p).open_faults ≡ 0) × Q
UnfailedAt w (Into' p _ a) Q = ((w p).write_faults ≡ 0) × Q
UnfailedAt w n Q = Q

-- nothing that the node and its parts do with a device failed: no open, no read and no write
abbrev pub HasNoFailure : (ℕ → DeviceTold) → Node → Type 0
HasNoFailure w n = folded (Unit {0}) (λ Q R. Q × R) (UnfailedAt w) n

-- no act of these failed, and A tells of the others; or one did, that fault is the end, and of the others it is so
abbrev pub FailsOnce : ℕ → Code → (End → Type 0) → Type 0 → End → Type 0
FailsOnce n c A Others e = ((n ≡ 0) × A e) ⊎ ((n ≡ 1) × (e ≡ Fault c) × Others)

-- the end is that of A, and B, which never ran, did not fail; or A ended as Begins says, and the end is that of B
abbrev pub TellsInTurn : (End → Type 0) → (End → Type 0) → (End → Type 0) → Type 0 → End → Type 0
TellsInTurn Begins A B Unfailed e = (A e × Unfailed) ⊎ ((g : End) × Begins g × A g × B e)

-- the end is that of one side, and the other was left
abbrev pub TellsOfOne : (End → Type 0) → (End → Type 0) → End → Type 0
TellsOfOne A B e = (A e × B Cut) ⊎ (A Cut × B e)

-- each failure of a device of the node is its end, or that of the first part of an OnFault whose second part ran then; nothing fails twice, and nothing behind such an end
abbrev pub TellsFailures : (ℕ → DeviceTold) → Node → End → Type 0
TellsFailures w Nil e = Unit {0}
TellsFailures w (Emit load) e = Unit {0}
TellsFailures w (Raise c) e = Unit {0}
TellsFailures w (Read p) e = FailsOnce (w p).read_faults code.Read (λ g. Unit {0}) (Unit {0}) e
TellsFailures w (Weak' p _ a) e = FailsOnce (w p).open_faults code.Open (TellsFailures w a) (HasNoFailure w a) e
TellsFailures w (Scope' _ a) e = TellsFailures w a e
TellsFailures w (Append' _ a _ b) e = TellsInTurn (λ g. g ≡ Done) (TellsFailures w a) (TellsFailures w b) (HasNoFailure w b) e
TellsFailures w (OnFault' _ a _ b) e = TellsInTurn IsFault (TellsFailures w a) (TellsFailures w b) (HasNoFailure w b) e
TellsFailures w (Through' _ a q) e = TellsFailures w a e
TellsFailures w (Take' n _ a) e = TellsFailures w a e
TellsFailures w (Zip' _ a _ b) e = TellsOfOne (TellsFailures w a) (TellsFailures w b) e
TellsFailures w (Merge' _ a _ b) e = TellsOfOne (TellsFailures w a) (TellsFailures w b) e
TellsFailures w (Into' p _ a) e = FailsOnce (w p).write_faults code.Write (TellsFailures w a) (TellsFailures w a Cut) e

-- the same of a file that is opened and read
abbrev pub FileTells : DeviceTold → End → Type 0
FileTells d e = FailsOnce d.open_faults code.Open (λ g. FailsOnce d.read_faults code.Read (λ h. Unit {0}) (Unit {0}) g) (d.read_faults ≡ 0) e

-- a run of the node whose end tells of each failure of its devices
abbrev pub IsToldRun : Values → (ℕ → DeviceTold) → Node → Outcomes
IsToldRun t w n ys e = IsRun t w n ys e × TellsFailures w n e
