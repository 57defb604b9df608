use Rattle.std.proofs.Common.{◌≤◌, ◌-◌, suc, length, vec_capacity, drop}
use Rattle.row_seat.specs.Views.{OthersFit}
use Rattle.scope_tree.specs.Kids.{kids}
use Rattle.scope_tree.specs.Released.{Releases}
use Rattle.scope_tree.specs.Released.Holder.{owner}
use Rattle.scope_tree.proofs.tear.+tear.Given as goal

abbrev pub decreases-tear : goal.decreases-tear
decreases-tear g l = length l.branches.now - l.scope

abbrev pub invariant-children : goal.invariant-children
invariant-children g l = record {
  low : suc l.scope ≤ l.child;
  high : l.child ≤ length l.branches;
  fits : g.S.RowSeat.fits l.seat l.desk;
  released : Releases g.S.Pay.Finish.ends l.exit owner (kids l.child (drop l.child l.branches) l.acquisitions l.scope) (g.S.RowSeat.view l.initial.seat) l.initial.shelf.items l.shelf.items (g.S.RowSeat.view l.seat);
  room : vec_capacity l.initial.shelf ≤ vec_capacity l.shelf;
  others : OthersFit g.S.RowSeat.view g.S.RowSeat.fits (g.S.RowSeat.view l.initial.seat).by l.initial.desk l.desk;
}

abbrev pub decreases-children : goal.decreases-children
decreases-children g l = l.child
