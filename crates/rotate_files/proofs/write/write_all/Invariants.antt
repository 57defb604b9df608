use Rattle.std.proofs.Common.{length, ◌-◌, ◌≡◌, ◌≤◌, take}
use Rattle.device_port.specs.Device.{with_written}
use Rattle.rotate_files.proofs.write.write_all.Given as goal

-- so much was written
abbrev pub invariant-loop-at : goal.invariant-loop-at
invariant-loop-at g l = record {
  within : l.at ≤ length l.bytes;
  told : g.V.Device.told l.device ≡ with_written (g.V.Device.told l.fn.device) (take l.at l.bytes);
}

abbrev pub decreases-loop-at : goal.decreases-loop-at
decreases-loop-at g l = length l.bytes - l.at
