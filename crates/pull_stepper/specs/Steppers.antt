-- What contracts see of a stepper.
use Rattle.std.specs.Prelude.{◌≡◌, ◌≤◌, [], vec_len, vec_capacity}
use Rattle.chunk_core.specs.Tables.{Values}
use Rattle.device_port.specs.Device.{DeviceTold}
use Rattle.row_seat.specs.declared.view.View.{View}
use Rattle.pull_stepper.specs.declared.stepper.Stepper.{Stepper}
use Rattle.pull_stepper.specs.Resources.{AreInOrder, site}
use Rattle.pull_stepper.specs.Stepping.{Stepping}

module _ {S V F D T : Type 0} (view : S → View V) where
  -- what callers see of it, where the tables have these values
  abbrev pub stepping : (T → Values) → Stepper S V F V D T → Stepping V F
  stepping values s = record {
    site = site view s.runner.outside;
    rest = s.runner.rest;
    tables = values s.tables;
    chunk = s.runner.chunk;
    how = s.runner.how;
    wanting = s.runner.wanting;
  }

  -- its tree fits the desk, its devices are in order, and there is room to give them back
  pub record Works (told : V → DeviceTold) (fits : S → D → Type 0) (s : Stepper S V F V D T) (d : D) : Type 0 where
    pub stands : AreInOrder view told fits s.runner.outside d
    pub empty : s.room.items ≡ []
    pub enough : vec_len s.runner.outside.slots ≤ vec_capacity s.room
