use Rattle.std.proofs.Common.{ℕ, List, Bool, ◌+◌, ◌-◌, ◌*◌, ◌<◌}
use Rattle.device_port.specs.Depot.{DepotTold}
use Rattle.scope_tree.specs.Trees.{Fits}
use Rattle.hot_swap.specs.Swaps.{held, seen_tree}
use Rattle.rotate_files.specs.Copies.{IsCopying}
use Rattle.rotate_files.proofs.copying.copy.Given as goal

-- all that was read was given
abbrev pub invariant-copying : goal.invariant-copying
invariant-copying g l = record {
  fits : Fits g.S.RowSeat.view g.S.RowSeat.fits l.rotation.files.tree l.desk;
  left : l.rotation.left < l.bytes;
  along : (old : DepotTold) (path : List ℕ) (ended : Bool) → IsCopying g.D.Dev.Device.told old l.prefix l.bytes path (seen_tree g.S.RowSeat.view l.fn.rotation.files) (held l.fn.rotation.files) (g.D.Depot.told l.fn.depot) l.fn.rotation.count l.fn.rotation.left ended 0
      → (now : Bool) × IsCopying g.D.Dev.Device.told old l.prefix l.bytes path (seen_tree g.S.RowSeat.view l.rotation.files) (held l.rotation.files) (g.D.Depot.told l.depot) l.rotation.count l.rotation.left now 0;
}

-- as many bytes more as the files may take
abbrev pub decreases-copying : goal.decreases-copying
decreases-copying g l = 1024 * l.bytes + l.rotation.left - l.rotation.count * l.bytes
