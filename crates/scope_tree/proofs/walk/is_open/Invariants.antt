use Rattle.std.proofs.Common.{◌<◌, length}
use Rattle.scope_tree.specs.Walks.{Clear, Shaded}
use Rattle.scope_tree.proofs.walk.is_open.Given as goal

abbrev pub invariant-up : goal.invariant-up
invariant-up l = record {
  within : l.at < length l.branches;
  clear : Clear l.branches l.at → Clear l.branches l.scope;
  shaded : Shaded l.branches l.at → Shaded l.branches l.scope;
}

abbrev pub decreases-up : goal.decreases-up
decreases-up l = l.at
