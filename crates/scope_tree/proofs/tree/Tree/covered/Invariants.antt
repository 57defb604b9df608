use Rattle.std.proofs.Common.{◌≡◌, take}
use Rattle.res_ledger.specs.Own.{picked, reaches}
use Rattle.scope_tree.specs.Kept.{acquisition_pairs}
use Rattle.scope_tree.specs.Trace.{trace}
use Rattle.scope_tree.proofs.tree.Tree.covered.Given as goal

abbrev pub invariant-each : goal.invariant-each
invariant-each g l = l.rows.items ≡ picked (reaches (trace (g.S.RowSeat.view l.self.seat)) l.scope) (acquisition_pairs (take l.one-index l.self.acquisitions.items))
