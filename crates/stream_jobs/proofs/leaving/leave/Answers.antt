-- The stepper is taken apart, and its tree leaves.
use Rattle.pull_stepper.specs.Steppers.{stepping}
use Rattle.stream_jobs.proofs.leaving.leave.Goals as goal

pub part-requires-clause-fits : goal.part-requires-clause-fits
part-requires-clause-fits g c = c.end-tree.ensures.fits c.args.desk.now c.requires.works

pub part-requires-clause-ended : goal.part-requires-clause-ended
part-requires-clause-ended g c = (c.requires.visiting.0, stepping g.S.RowSeat.view g.F.PipeState.values c.args.stepper, c.end-tree.ensures.ends, c.requires.visiting.1, c.requires.room)

pub returns-clause-leaves : goal.returns-clause-leaves
returns-clause-leaves g c x v = c.part.ensures.leaves x (stepping g.S.RowSeat.view g.F.PipeState.values c.args.stepper) c.end-tree.ensures.ends v
