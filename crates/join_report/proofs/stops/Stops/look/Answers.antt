-- What the look found is noted.
use Rattle.join_report.proofs.Learning.{look_seated, looks_up}
use Rattle.join_report.proofs.stops.Stops.look.Goals as goal

pub returns-clause-finds : goal.returns-clause-finds
returns-clause-finds c = looks_up c.args.self.now c.args.context c.requires.seated _ _ c.look.new.self c.look.result c.look.ensures.look c.look.ensures.answer c.look.ensures.own c.look.ensures.root

pub returns-clause-seated : goal.returns-clause-seated
returns-clause-seated c = look_seated c.args.self.now c.args.context c.requires.seated _ _ c.look.new.self c.look.ensures.look c.look.ensures.alone.0 c.look.ensures.alone.1
