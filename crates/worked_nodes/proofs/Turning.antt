-- What several turns of a runner give.
use Rattle.std.proofs.Common.{ℕ, []}
use Rattle.device_port.specs.Device.{DeviceTold}
use Rattle.pull_turns.specs.Around.{Around}
use Rattle.pull_turns.specs.Led.{Led, Turns}
use Rattle.pull_turns.specs.Piping.{StateMeaning}
use Rattle.pull_turns.specs.Turned.{Gave}
use Rattle.pull_turns.specs.declared.rest.Rest.{Rest}
use Rattle.pull_turns.specs.declared.turn.Turn.{Turn}
use Rattle.pull_turns.specs.declared.turn.Turn.TheVariants.{Chunk, Quiet, Done, Fault}
use Rattle.pull_turns.proofs.Led.{led_chunk, led_done, led_fault, led_quiet}

-- what a turn gives behind quiet ones is given since the first of them
pub gave_behind : {F : Type 0} (P : StateMeaning F) (first : ℕ → DeviceTold) (before now : Around) (n : ℕ) (start old new : Rest F) → Led P first before.told start old [] → (t : Turn) → Turns P before now n old new t → Gave P now.told start new t
gave_behind P first before now n start old new h (Chunk l) k = (k.gave.0, (led_chunk P first before now n start old new [] h l k).lead)
gave_behind P first before now n start old new h Quiet k = (led_quiet P first before now n start old new [] h k).lead
gave_behind P first before now n start old new h Done k = λ w o. (led_done P first before now n start old new [] h k w o).0
gave_behind P first before now n start old new h (Fault c) k = λ w o. (led_fault P first before now n start old new [] h c k w o).0
