use Rattle.std.proofs.Common.{◌≤◌, length, drop}
use Rattle.std.specs.HashMap.{get}
use Rattle.chart_marks.specs.Marks.{same_thing}
use Rattle.chart_marks.proofs.Walked.{IsWalked}
use Rattle.chart_marks.proofs.marks.marks_of.Given as goal

abbrev pub invariant-loop-n : goal.invariant-loop-n
invariant-loop-n l = record {
  within : l.n ≤ length l.events;
  walked : IsWalked (λ q. get same_thing l.ends q) l.marks.items (drop l.n l.events);
}

abbrev pub decreases-loop-n : goal.decreases-loop-n
decreases-loop-n l = l.n
