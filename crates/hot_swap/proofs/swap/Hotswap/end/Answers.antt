use Rattle.std.proofs.Common.{◌∙◌}
use Rattle.hot_swap.specs.Swaps.{seen_tree, held}
use Rattle.scope_tree.specs.Trees.{seen}
use Rattle.hot_swap.proofs.Holding.{root_open}
use Rattle.hot_swap.proofs.Turns.{all_end}
use Rattle.hot_swap.proofs.swap.Hotswap.end.Goals as goal

pub close-requires-clause-scope : goal.close-requires-clause-scope
close-requires-clause-scope g c = root_open (seen_tree g.S.RowSeat.view c.args.self) (held c.args.self) c.requires.holding

pub returns-clause-finish : goal.returns-clause-finish
returns-clause-finish g c = λ m o n. c.end.ensures.finish (c.close.ensures.rights.main ∙ m) (c.close.ensures.rights.out ∙ o) (c.close.ensures.leases.only _ n)

pub returns-clause-ends : goal.returns-clause-ends
returns-clause-ends g c = λ u.
    let view = g.S.RowSeat.view in
    all_end (seen_tree view c.args.self) (seen view c.close.new.self) (held c.args.self) (view c.end.result.0) c.end.result.1 c.requires.holding u c.close.ensures.closes c.end.ensures.seat c.end.ensures.shelf
