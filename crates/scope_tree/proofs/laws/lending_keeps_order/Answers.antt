use Rattle.scope_tree.proofs.Lent.{lent_fits}
use Rattle.scope_tree.proofs.laws.lending_keeps_order.Goals as goal

pub returns-clause-fits : goal.returns-clause-fits
returns-clause-fits g c = λ r w d f. let laws = g.met.S.RowSeat in lent_fits g.S.RowSeat.view g.S.RowSeat.with_pay laws.pay_view g.S.RowSeat.fits laws.pay_fits c.args.tree.now r w d f
