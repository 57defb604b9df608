use Rattle.std.proofs.Common.{length, ◌-◌, ◌≡◌, ◌≤◌, take}
use Rattle.device_port.specs.Sink.{with_bytes}
use Rattle.device_port.proofs.sink.put.Given as goal

-- so much was written
abbrev pub invariant-loop-at : goal.invariant-loop-at
invariant-loop-at g l = record {
  within : l.at ≤ length l.bytes;
  told : g.K.Sink.told l.out ≡ with_bytes (g.K.Sink.told l.fn.out) (take l.at l.bytes);
}

abbrev pub decreases-loop-at : goal.decreases-loop-at
decreases-loop-at g l = length l.bytes - l.at
