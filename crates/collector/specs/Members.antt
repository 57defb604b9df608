-- What contracts see of the parts of a collector.
use Rattle.chunk_core.specs.Tables.{Values}
use Rattle.device_port.specs.Device.{DeviceTold}
use Rattle.pull_turns.specs.Piping.{StateMeaning}
use Rattle.row_seat.specs.declared.view.View.{View}

-- how a seat is seen and a device is told, which seats fit a desk, which values tables have, and what the states of pipes stand for over these
pub record Members (S V F D T : Type 0) : Type 1 where
  pub view : S → View V
  pub told : V → DeviceTold
  pub fits : S → D → Type 0
  pub values : T → Values
  pub stands : Values → StateMeaning F

abbrev pub members : {S V F D T : Type 0} → (S → View V) → (V → DeviceTold) → (S → D → Type 0) → (T → Values) → (Values → StateMeaning F) → Members S V F D T
members view told fits values stands = record { view = view; told = told; fits = fits; values = values; stands = stands }
