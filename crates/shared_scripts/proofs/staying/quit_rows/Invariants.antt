use Rattle.res_ledger.specs.declared.event.StreamNo.TheVariants.{Inner}
use Rattle.row_seat.specs.Views.{OthersFit}
use Rattle.shared_scripts.specs.Crowds.{IsQuitting}
use Rattle.shared_scripts.proofs.staying.quit_rows.Given as goal

abbrev pub invariant-loop-row : goal.invariant-loop-row
invariant-loop-row g l =
    g.S.RowSeat.fits l.seat l.desk
    × IsQuitting (g.S.RowSeat.view l.seat) l.fn.stream l.row
    × OthersFit g.S.RowSeat.view g.S.RowSeat.fits (Inner l.fn.stream) l.initial.desk l.desk
