use Rattle.std.proofs.Common.{◌≡◌}
use Rattle.std.specs.VecDeque.{deque_capacity}
use Rattle.collector.proofs.Passing.{Passed}
use Rattle.collector.proofs.collector.Collector.take_job.Given as goal

-- so many jobs went behind the others, none of which was that of the stream
abbrev pub invariant-loop-passed : goal.invariant-loop-passed
invariant-loop-passed g l = record {
  passed : Passed (λ j. j.sender.stream) l.stream l._passed l.initial.self.jobs.items l.self.jobs.items;
  room : deque_capacity l.self.jobs ≡ deque_capacity l.initial.self.jobs;
  same : l.self ≡ record l.initial.self { jobs = l.self.jobs };
}
