use Rattle.std.proofs.Common.{◌≡◌, map}
use Rattle.run_rules.specs.Facts.{first_numbers}
use Rattle.gen_case.specs.Plan.{stream_spec}
use Rattle.gen_case.proofs.plan.streams_of.Given as goal

-- the streams so far
abbrev pub invariant-loop-k : goal.invariant-loop-k
invariant-loop-k l = l.streams ≡ map stream_spec (first_numbers l.k)
