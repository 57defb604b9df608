use Rattle.std.proofs.Common.{◌-◌, length}
use Rattle.ledger_chart.proofs.picture.Page.draw_lane.Given as goal

abbrev pub decreases-loop-at : goal.decreases-loop-at
decreases-loop-at l = length l.marks - l.at
