use Rattle.std.proofs.Common.{◌≡◌, ◌+◌, ◌≤◌, ◌++◌, reverse, vec_len, vec_capacity}
use Rattle.std.specs.List.{filter_map}
use Rattle.pull_stepper.proofs.places.from_slots.Given as goal

abbrev pub invariant-each : goal.invariant-each
invariant-each g l = record {
  devices : l.devices.items ++ filter_map (λ o. o) (reverse l.slots.items) ≡ filter_map (λ o. o) l.fn.slots.items;
  room : vec_len l.slots + vec_len l.devices ≤ vec_capacity l.devices;
}

abbrev pub decreases-each : goal.decreases-each
decreases-each g l = vec_len l.slots
