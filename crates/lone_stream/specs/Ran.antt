-- What is left of one stream that has ended.
use Rattle.std.specs.Prelude.{◌≡◌, ℕ, ◌<◌, ◌≤◌, ◌^◌, List, map, length}
use Rattle.std.specs.List.Sorted.{IsPermutation}
use Rattle.chunk_core.specs.Elements.{Element}
use Rattle.chunk_core.specs.Outcomes.{End}
use Rattle.chunk_core.specs.Tables.{no_values}
use Rattle.device_port.specs.Device.{DeviceTold}
use Rattle.joined_runs.specs.Devices.{IsAtRest}
use Rattle.pull_nodes.specs.Failures.{IsToldRun}
use Rattle.pull_nodes.specs.Shape.{scope_count}
use Rattle.pull_nodes.specs.declared.node.Node.{Node}
use Rattle.res_ledger.specs.declared.event.StreamNo.{StreamNo}
use Rattle.run_rules.specs.Facts.{first_numbers}
use Rattle.run_rules.specs.Outputs.{IsReported}
use Rattle.stream_parts.specs.Retire.{devices_of}
use Rattle.stream_parts.specs.Same.{AreSame}
use Rattle.lone_stream.specs.Account.{IsAccountOf}
use Rattle.lone_stream.specs.declared.run.Ran.{Ran}

module _ {V : Type 0} (told : V → DeviceTold) where
  -- The stream ran the node over these devices, which came to tell so: each stands on the shelf or was never opened, and isn't open, and none was read
  -- beyond the limit. The ledger tells of each, and how the stream ended.
  pub record ComesHome (who : StreamNo) (n : Node) (devices : List V) (home : ℕ → DeviceTold) (r : Ran V) : Type 0 where
    pub same : AreSame told home 0 devices
    pub each : IsPermutation (map home (first_numbers (length devices))) (devices_of told r.shelf r.unopened)
    pub rest : (k : ℕ) → k < length devices → IsAtRest (home k)
    pub within : (k : ℕ) → (home k).at ≤ 2 ^ 40
    pub account : IsAccountOf who (length devices) (scope_count n) home r.how r.ledger

  -- the stream gave these elements over its devices, as a run of the node, and ended as the run did, which tells of each failure of the devices
  pub record RunsLone (who : StreamNo) (n : Node) (devices : List V) (given : List Element) (r : Ran V) : Type 0 where
    pub home : ℕ → DeviceTold
    pub end : End
    pub run : IsToldRun no_values home n given end
    pub reported : IsReported end r.how
    pub comes : ComesHome who n devices home r
