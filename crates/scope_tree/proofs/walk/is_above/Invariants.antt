use Rattle.std.proofs.Common.{◌<◌, length}
use Rattle.scope_tree.specs.Walks.{StandsAbove}
use Rattle.scope_tree.proofs.walk.is_above.Given as goal

abbrev pub invariant-up : goal.invariant-up
invariant-up l = record {
  within : l.at < length l.branches;
  up : StandsAbove l.branches l.at l.of → StandsAbove l.branches l.fn.scope l.of;
  down : StandsAbove l.branches l.fn.scope l.of → StandsAbove l.branches l.at l.of;
}

abbrev pub decreases-up : goal.decreases-up
decreases-up l = l.at
