use Rattle.std.proofs.Common.{◌≡◌, length}
use Rattle.chunk_core.specs.Lists.{IsAmong}
use Rattle.device_port.specs.Records.{record_told}
use Rattle.pull_stepper.specs.Sites.{IsUnused}
use Rattle.worked_nodes.specs.declared.narrow.Narrow.{Narrow}
use Rattle.worked_nodes.proofs.runs.devices.Given as goal

abbrev pub invariant-loop-place : goal.invariant-loop-place
invariant-loop-place l = record {
  count : length l.devices ≡ l.place;
  unused : (d : Narrow) → IsAmong d l.devices → IsUnused (record_told d.device.facts);
}
