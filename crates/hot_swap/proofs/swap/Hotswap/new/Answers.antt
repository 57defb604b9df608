use Rattle.scope_tree.specs.Trees.{seen}
use Rattle.hot_swap.proofs.Holding.{start_holds}
use Rattle.hot_swap.proofs.swap.Hotswap.new.Goals as goal

pub returns-clause-holding : goal.returns-clause-holding
returns-clause-holding g c = λ e o r. start_holds (seen g.S.RowSeat.view c.args.tree) e o r
