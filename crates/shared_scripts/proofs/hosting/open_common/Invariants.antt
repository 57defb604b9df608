use Rattle.std.proofs.Common.{◌≡◌, ◌+◌, [], vec_len}
use Rattle.shared_scripts.specs.Crowds.{IsHost}
use Rattle.shared_scripts.proofs.hosting.open_common.Given as goal

abbrev pub invariant-loop-row : goal.invariant-loop-row
invariant-loop-row g l = g.S.RowSeat.fits l.seat l.desk × IsHost (g.S.RowSeat.view l.seat) [] l.row 0 1 × (vec_len l.pays + l.row ≡ 8)
