use Rattle.std.proofs.Common.{◌≤◌, length, vec_capacity, drop}
use Rattle.row_seat.specs.Views.{OthersFit}
use Rattle.scope_tree.specs.Kids.{lasts}
use Rattle.scope_tree.specs.Released.{Releases}
use Rattle.scope_tree.specs.Released.Holder.{owner}
use Rattle.scope_tree.proofs.tear.release_rows.Given as goal

abbrev pub invariant-rows : goal.invariant-rows
invariant-rows g l = record {
  within : l.at ≤ length l.acquisitions;
  fits : g.S.RowSeat.fits l.seat l.desk;
  released : Releases g.S.Pay.Finish.ends l.exit owner (lasts (drop l.at l.acquisitions) l.scope) (g.S.RowSeat.view l.initial.seat) l.initial.shelf.items l.shelf.items (g.S.RowSeat.view l.seat);
  room : vec_capacity l.initial.shelf ≤ vec_capacity l.shelf;
  others : OthersFit g.S.RowSeat.view g.S.RowSeat.fits (g.S.RowSeat.view l.initial.seat).by l.initial.desk l.desk;
}

abbrev pub decreases-rows : goal.decreases-rows
decreases-rows g l = l.at
