use Rattle.hot_swap.proofs.TwoRows.{holds_two}
use Rattle.hot_swap.proofs.laws.swaps_hold_two.Goals as goal

pub returns : goal.returns
returns c = holds_two
