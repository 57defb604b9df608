use Rattle.std.proofs.Common.{◌≡◌, ◌≤◌, ◌+◌, ◌*◌}
use Rattle.std.specs.List.{range_with_len, sum_by}
use Rattle.collector.specs.Starting.{outer_events}
use Rattle.collector.specs.Trees.{events_at}
use Rattle.par_join.proofs.room.all_events.Given as goal

-- the events of the streams so far are counted, at most 20 each with its Lease
abbrev pub invariant-loop-k : goal.invariant-loop-k
invariant-loop-k l = record {
  counted : l.count ≡ 1 + outer_events l.plan + l.k + sum_by (events_at l.plan) (range_with_len 0 l.k);
  few : l.count ≤ 53 + 20 * l.k;
}
