-- The code was set, or one was found.
use Rattle.join_report.proofs.Learning.{marks, marks_seated}
use Rattle.join_report.proofs.stops.Stops.interrupt.Goals as goal

pub returns-clause-marks : goal.returns-clause-marks
returns-clause-marks c = marks c.args.self.now c.args.context c.requires.seated c.set.result c.args.stop c.set.new.self c.set.ensures.set c.set.ensures.stood

pub returns-clause-seated : goal.returns-clause-seated
returns-clause-seated c = marks_seated c.args.self.now c.args.context c.requires.seated c.set.result c.args.stop c.set.new.self c.set.ensures.set c.set.ensures.stood
