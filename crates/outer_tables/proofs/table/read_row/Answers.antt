-- The device in the row is the one that is read.
use Rattle.scope_tree.proofs.Lent.{lent_fits}
use Rattle.outer_tables.proofs.table.read_row.Goals as goal

pub returns-clause-fits : goal.returns-clause-fits
returns-clause-fits g c d f = lent_fits g.S.RowSeat.view g.S.RowSeat.with_pay g.met.S.RowSeat.pay_view g.S.RowSeat.fits g.met.S.RowSeat.pay_fits c.args.tree.now c.args.row c.read_whole.new.device d f
