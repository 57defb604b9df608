-- What the work below the top call promises.
use Rattle.std.specs.Prelude.{◌≡◌, ◌⊎◌, ℕ, true, false, [], None}
use Rattle.device_port.specs.Device.{DeviceTold}
use Rattle.run_rules.specs.Devices.{DevicesAccounted}
use Rattle.run_rules.specs.Ends.{HaveEnds}
use Rattle.run_rules.specs.Exits.{HaveExits}
use Rattle.run_rules.specs.Homes.{HaveHomes}
use Rattle.run_rules.specs.Memory.{IsWanting}
use Rattle.run_rules.specs.Outputs.{HaveOutputs}
use Rattle.run_rules.specs.Rules.{KeepsRules}
use Rattle.run_rules.specs.Wholeness.{NothingFailed, IsWholeRun}
use Rattle.run_rules.specs.Work.{Work, Values, RunRecord, row_places}

-- no seat could be made, and nothing was done
pub record IsUnmade (c : RunRecord) : Type 0 where
  pub memory : c.memory ≡ true
  pub depot : c.depot_new ≡ c.depot_old
  pub ends : c.ends ≡ []
  pub events : c.events ≡ []
  pub frames : c.frames ≡ []
  pub cut : c.cut ≡ None
  pub rest : c.rest ≡ []

-- the streams ran, over these values of the tables and these devices of the rows
pub record Ran (work : Work) (c : RunRecord) : Type 0 where
  pub values : Values
  pub home : ℕ → DeviceTold
  pub rows : HaveHomes work c values home
  pub outputs : HaveOutputs work c values home
  pub ends : HaveEnds work c home
  pub exits : HaveExits work c values home
  pub wanting : c.memory ≡ true → IsWanting work c values home
  pub completeness : c.memory ≡ false → NothingFailed work c values home → IsWholeRun work c values home

-- The run did the work: its devices are accounted for, its ledger keeps the rules, and its streams ran, where a seat could be made.
pub record Performs (work : Work) (c : RunRecord) : Type 0 where
  pub devices : DevicesAccounted c.depot_old c.depot_new (row_places work) c.events
  pub ledger : KeepsRules work c.events
  pub ran : IsUnmade c ⊎ Ran work c
