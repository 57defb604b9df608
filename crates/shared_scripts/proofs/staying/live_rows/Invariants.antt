use Rattle.std.proofs.Common.{◌≡◌, ◌+◌, ◌*◌, vec_len}
use Rattle.res_ledger.specs.declared.event.StreamNo.TheVariants.{Inner}
use Rattle.row_seat.specs.Views.{OthersFit}
use Rattle.shared_scripts.specs.Crowds.{IsLiving}
use Rattle.shared_scripts.proofs.staying.live_rows.Given as goal

abbrev pub invariant-loop-row : goal.invariant-loop-row
invariant-loop-row g l =
    g.S.RowSeat.fits l.seat l.desk
    × IsLiving (g.S.RowSeat.view l.seat) l.fn.stream l.row
    × (vec_len l.pays + l.row ≡ 64 * l.fn.stream + 8)
    × OthersFit g.S.RowSeat.view g.S.RowSeat.fits (Inner l.fn.stream) l.initial.desk l.desk
