use Rattle.std.proofs.Common.{map}
use Rattle.stream_parts.proofs.Exchanged.{Returning}
use Rattle.stream_parts.proofs.retire.retire_all.Given as goal

-- what was taken off the list came back
abbrev pub invariant-loop-device : goal.invariant-loop-device
invariant-loop-device g l =
    Returning (g.D.Depot.told l.fn.depot) (g.D.Depot.told l.depot) (map (λ d. g.D.Dev.Device.told d) l.fn.devices) (map (λ d. g.D.Dev.Device.told d) l.left.items)

abbrev pub decreases-loop-device : goal.decreases-loop-device
decreases-loop-device g l = goal.left-loop-device g l
