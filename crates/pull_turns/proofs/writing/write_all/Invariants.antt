use Rattle.std.proofs.Common.{length, ◌-◌, ◌≤◌, take}
use Rattle.pull_turns.specs.Around.{Writes}
use Rattle.pull_turns.proofs.writing.write_all.Given as goal

-- so much was written
abbrev pub invariant-loop-at : goal.invariant-loop-at
invariant-loop-at g l = record {
  within : l.at ≤ length l.bytes;
  wrote : Writes (g.O.Outside.seen l.fn.outside) l.place (take l.at l.bytes) 0 (g.O.Outside.seen l.outside);
  fits : g.O.Outside.fits l.outside l.desk;
  since : g.O.Outside.since l.fn.outside l.fn.desk l.outside l.desk;
}

abbrev pub decreases-loop-at : goal.decreases-loop-at
decreases-loop-at g l = length l.bytes - l.at
