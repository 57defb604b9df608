use Rattle.std.proofs.Common.{◌≡◌}
use Rattle.res_ledger.specs.declared.event.StreamNo.TheVariants.{Outer}
use Rattle.row_seat.specs.Views.{OthersFit}
use Rattle.shared_scripts.specs.Crowds.{with_lent}
use Rattle.shared_scripts.proofs.hosting.lease_common.Given as goal

abbrev pub invariant-loop-row : goal.invariant-loop-row
invariant-loop-row g l =
    g.S.RowSeat.fits l.seat l.desk
    × (g.S.RowSeat.view l.seat ≡ with_lent (g.S.RowSeat.view l.initial.seat) l.fn.stream l.row)
    × OthersFit g.S.RowSeat.view g.S.RowSeat.fits Outer l.initial.desk l.desk
