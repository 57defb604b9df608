use Rattle.std.proofs.Common.{◌≡◌, take}
use Rattle.device_port.specs.Trips.{nths_of}
use Rattle.device_port.proofs.calls.nths_of.Given as goal

abbrev pub invariant-loop-trip : goal.invariant-loop-trip
invariant-loop-trip l = l.nths ≡ nths_of l.path l.act (take l.trip-index l.trips)
