use Rattle.std.proofs.Common.{ℕ}
use Rattle.res_ledger.specs.declared.event.StreamNo.TheVariants.{Outer}
use Rattle.row_seat.specs.Views.{OthersFit}
use Rattle.shared_scripts.specs.Crowds.{IsHost}
use Rattle.shared_scripts.proofs.hosting.shut_common.Given as goal

abbrev pub invariant-loop-row : goal.invariant-loop-row
invariant-loop-row g l =
    g.S.RowSeat.fits l.seat l.desk
    × ((j : ℕ) × IsHost (g.S.RowSeat.view l.seat) (g.S.RowSeat.view l.initial.seat).out 8 l.row j)
    × OthersFit g.S.RowSeat.view g.S.RowSeat.fits Outer l.initial.desk l.desk
