use Rattle.pull_stepper.proofs.stepper.Stepper.halt.Goals as goal

-- what was left was left so
pub returns-clause-cut : goal.returns-clause-cut
returns-clause-cut g c can = c.halt.ensures.cut (g.F.PipeState.values c.args.self.now.tables) can.step
