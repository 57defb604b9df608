use Rattle.std.proofs.Common.{refl}
use Rattle.pull_turns.specs.Piping.{standing}
use Rattle.pull_turns.proofs.Led.{cut_unwritten, shut_so}
use Rattle.pull_turns.proofs.Unwritten.{stays_well}
use Rattle.pull_turns.proofs.runner.Runner.halt.Goals as goal

pub returns-clause-shut : goal.returns-clause-shut
returns-clause-shut g c = shut_so _ (g.O.Outside.held _ _ c.leave.ensures.fits) (c.leave.ensures.leaves.root refl)

pub returns-clause-cut : goal.returns-clause-cut
returns-clause-cut g c t can =
    cut_unwritten (standing g.F.Feed.stands g.F.Feed.comes t) (g.O.Outside.seen c.args.self.now.outside) (g.O.Outside.seen c.leave.new.self) 0 c.args.self.now.rest can
    (λ p. stays_well ((g.O.Outside.seen c.args.self.now.outside).told p) ((g.O.Outside.seen c.leave.new.self).told p) (c.leave.ensures.leaves.told p))
