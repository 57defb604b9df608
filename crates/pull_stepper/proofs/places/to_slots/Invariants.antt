use Rattle.std.proofs.Common.{◌≡◌, ◌+◌, ◌≤◌, ◌++◌, map, Some, reverse, vec_len, vec_capacity}
use Rattle.pull_stepper.proofs.places.to_slots.Given as goal

abbrev pub invariant-each : goal.invariant-each
invariant-each g l = record {
  slots : l.slots.items ++ map Some (reverse l.devices.items) ≡ map Some l.fn.devices.items;
  room : vec_len l.slots + vec_len l.devices ≤ vec_capacity l.slots;
  kept : vec_capacity l.devices ≡ vec_capacity l.fn.devices;
}

abbrev pub decreases-each : goal.decreases-each
decreases-each g l = vec_len l.devices
