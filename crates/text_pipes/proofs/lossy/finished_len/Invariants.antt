use Rattle.std.proofs.Common.{◌-◌, length}
use Rattle.text_pipes.proofs.LossyTails.{SearchedTo}
use Rattle.text_pipes.proofs.lossy.finished_len.Given as goal

abbrev pub invariant-tails : goal.invariant-tails
invariant-tails l = SearchedTo l.at l.bytes

abbrev pub decreases-tails : goal.decreases-tails
decreases-tails l = length l.bytes - l.at
