-- How the end of what is left tells of the acts on devices that failed.
use Rattle.std.specs.Prelude.{ℕ, ◌<◌}
use Rattle.chunk_core.specs.declared.code.Code.TheVariants as code
use Rattle.chunk_core.specs.Outcomes.{End, Done, Fault, Cut, Outcomes}
use Rattle.device_port.specs.Device.{DeviceTold}
use Rattle.pull_nodes.specs.Failures.{FailsOnce, HasNoFailure, TellsFailures, TellsInTurn, TellsOfOne}
use Rattle.pull_turns.specs.Piping.{StateMeaning}
use Rattle.pull_turns.specs.Rest.{Begins, IsRunOfRest}
use Rattle.pull_turns.specs.Turned.{Over, TellsAtEnd}
use Rattle.pull_turns.specs.declared.rest.Rest.{Rest}
use Rattle.pull_turns.specs.declared.rest.Rest.TheVariants.{Nil, Start, Read, Within', Then', Through', Finishing, Faulty, Groups', Take', Into', Zip', Merge'}
use Rattle.pull_turns.specs.declared.turn.Turn.{Turn}
use Rattle.pull_turns.specs.declared.turn.Turn.TheVariants as turn

-- each failure of a device of what is left, by what the devices tell at the end, is told by this end, as it is of a node; what is below a take that has all it wants fails no more
abbrev pub RestTells : {F : Type 0} → (ℕ → DeviceTold) → Rest F → End → Type 0
RestTells w Nil e = Unit {0}
RestTells w (Start n) e = TellsFailures w n e
RestTells w (Read p from) e = FailsOnce (w p).read_faults code.Read (λ g. Unit {0}) (Unit {0}) e
RestTells w (Within' s _ a) e = RestTells w a e
RestTells w (Then' v _ a b) e = TellsInTurn (Begins v) (RestTells w a) (TellsFailures w b.value) (HasNoFailure w b.value) e
RestTells w (Through' _ a q) e = RestTells w a e
RestTells w (Finishing q) e = Unit {0}
RestTells w (Faulty c) e = Unit {0}
RestTells w (Groups' n f _ a) e = RestTells w a e
RestTells w (Take' n _ a) e = 0 < n → RestTells w a e
RestTells w (Into' p v _ a) e = FailsOnce (w p).write_faults code.Write (RestTells w a) (RestTells w a Cut) e
RestTells w (Zip' z _ a _ b) e = TellsOfOne (RestTells w a) (RestTells w b) e
RestTells w (Merge' m _ a _ b) e = TellsOfOne (RestTells w a) (RestTells w b) e

-- a run of what is left whose end tells of each failure of its devices
abbrev pub IsToldRunOfRest : {F : Type 0} → StateMeaning F → (ℕ → DeviceTold) → Rest F → Outcomes
IsToldRunOfRest P w r ys e = IsRunOfRest P w r ys e × RestTells w r e

-- whatever end tells of the failures of the new tells of those of the old, too
abbrev pub TellsOn : {F : Type 0} → (ℕ → DeviceTold) → Rest F → Rest F → Type 0
TellsOn now old new = (w : ℕ → DeviceTold) → TellsAtEnd now w old new → (e : End) → RestTells w new e → RestTells w old e

-- after a turn that goes on no failure is told yet but those that were taken, and an end tells of each
abbrev pub TurnTells : {F : Type 0} → (ℕ → DeviceTold) → Rest F → Rest F → Turn → Type 0
TurnTells now old new (turn.Chunk l) = TellsOn now old new
TurnTells now old new turn.Quiet = TellsOn now old new
TurnTells now old new turn.Done = (w : ℕ → DeviceTold) → Over now w old → RestTells w old Done
TurnTells now old new (turn.Fault c) = (w : ℕ → DeviceTold) → Over now w old → RestTells w old (Fault c)
