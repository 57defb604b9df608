use Rattle.std.proofs.Common.{ℕ, List, length, ◌++◌, ◌-◌, ◌<◌, ◌≤◌, take}
use Rattle.device_port.specs.Depot.{DepotTold}
use Rattle.scope_tree.specs.Trees.{Fits}
use Rattle.hot_swap.specs.Swaps.{held, seen_tree}
use Rattle.rotate_files.specs.Rotating.{IsInStep}
use Rattle.rotate_files.proofs.rotation.give.Given as goal

-- so much was given
abbrev pub invariant-loop-at : goal.invariant-loop-at
invariant-loop-at g l = record {
  within : l.at ≤ length l.piece;
  fits : Fits g.S.RowSeat.view g.S.RowSeat.fits l.rotation.files.tree l.desk;
  left : l.rotation.left < l.bytes;
  along : (old : DepotTold) (path given : List ℕ) (src : g.row.D-Dev.Denot) → IsInStep g.D.Dev.Device.told old l.prefix l.bytes path (seen_tree g.S.RowSeat.view l.fn.rotation.files) (held l.fn.rotation.files) (g.D.Depot.told l.fn.depot) l.fn.rotation.count l.fn.rotation.left given src
      → IsInStep g.D.Dev.Device.told old l.prefix l.bytes path (seen_tree g.S.RowSeat.view l.rotation.files) (held l.rotation.files) (g.D.Depot.told l.depot) l.rotation.count l.rotation.left (given ++ take l.at l.piece) src;
}

abbrev pub decreases-loop-at : goal.decreases-loop-at
decreases-loop-at g l = length l.piece - l.at
