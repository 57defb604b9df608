use Rattle.std.proofs.Common.{◌≡◌, ◌≤◌, length, vec_capacity}
use Rattle.eval_hands.specs.Crews.{AreHiredFirst}
use Rattle.eval_hands.proofs.crew.begin_all.Given as goal

-- the first hands were hired
abbrev pub invariant-loop-hand : goal.invariant-loop-hand
invariant-loop-hand g l =
    record {
      count : length l.hired.items ≡ length l.yielded;
      first : AreHiredFirst g.W.Work.result_of l.place.work.now l.place.lanes.now l.hired.items;
      room : length l.fn.hands ≤ vec_capacity l.hired;
    }
