use Rattle.tee_workers.specs.Returns.{ComesBack}
use Rattle.tee_workers.proofs.away.run_branch.Given as goal

-- it is the branch that came
abbrev pub invariant-turns : goal.invariant-turns
invariant-turns g l = ComesBack g.F.Feed.stands g.F.Feed.comes l.initial.branch l.branch
