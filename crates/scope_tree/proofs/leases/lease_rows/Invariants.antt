use Rattle.std.proofs.Common.{◌≡◌, take}
use Rattle.row_seat.specs.Views.{OthersFit}
use Rattle.scope_tree.specs.Leased.{leased_all}
use Rattle.scope_tree.proofs.leases.lease_rows.Given as goal

abbrev pub invariant-each : goal.invariant-each
invariant-each g l = record {
  fits : g.S.RowSeat.fits l.seat l.desk;
  seat : g.S.RowSeat.view l.seat ≡ leased_all (g.S.RowSeat.view l.initial.seat) l.stream (take l.row-index l.rows);
  others : OthersFit g.S.RowSeat.view g.S.RowSeat.fits (g.S.RowSeat.view l.initial.seat).by l.initial.desk l.desk;
}
