use Rattle.scope_tree.proofs.Lent.{lent_fits}
use Rattle.rotate_files.proofs.row.read_row.Goals as goal

pub returns-clause-fits : goal.returns-clause-fits
returns-clause-fits g c d f = lent_fits g.S.RowSeat.view g.S.RowSeat.with_pay g.met.S.RowSeat.pay_view g.S.RowSeat.fits g.met.S.RowSeat.pay_fits c.args.files.now.tree c.args.row c.read.new.self d f
