use Rattle.std.proofs.Common.{map}
use Rattle.stream_parts.proofs.Exchanged.{Returning}
use Rattle.stream_parts.proofs.retire.retire_shelf.Given as goal

-- what was taken off the list came back
abbrev pub invariant-loop-spent : goal.invariant-loop-spent
invariant-loop-spent g l =
    Returning (g.D.Depot.told l.fn.depot) (g.D.Depot.told l.depot) (map (λ x. g.D.Dev.Device.told x.pay) l.fn.shelf) (map (λ x. g.D.Dev.Device.told x.pay) l.left.items)

abbrev pub decreases-loop-spent : goal.decreases-loop-spent
decreases-loop-spent g l = goal.left-loop-spent g l
