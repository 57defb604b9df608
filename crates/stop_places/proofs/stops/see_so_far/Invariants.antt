use Rattle.std.specs.Prelude.{◌≡◌}
use Rattle.row_seat.specs.Views.{OthersFit}
use Rattle.stop_places.proofs.stops.see_so_far.Given as goal

-- the seat is as it was, and fits the desk
abbrev pub invariant-looks : goal.invariant-looks
invariant-looks g l = record {
  view : g.S.RowSeat.view l.seat ≡ g.S.RowSeat.view l.initial.seat;
  fits : g.S.RowSeat.fits l.seat l.desk;
  others : OthersFit g.S.RowSeat.view g.S.RowSeat.fits (g.S.RowSeat.view l.initial.seat).by l.initial.desk l.desk;
}
