use Rattle.scope_tree.proofs.Ending.{none_inner, none_leased}
use Rattle.scope_tree.proofs.laws.rows_without_a_lease_end.Goals as goal

pub returns-clause-inner : goal.returns-clause-inner
returns-clause-inner g c = none_inner (g.S.RowSeat.view c.args.tree.now.seat)

pub returns-clause-none : goal.returns-clause-none
returns-clause-none g c = none_leased (g.S.RowSeat.view c.args.tree.now.seat)

pub returns-clause-row : goal.returns-clause-row
returns-clause-row g c = λ r n k. n k.1.0 k.1.1.0
