-- What the look found is set.
use Rattle.std.proofs.Common.{sym, subst, rules}
use Rattle.join_report.specs.Stopping.{Looks}
use Rattle.join_report.proofs.Learning.{looks}
use Rattle.join_report.proofs.stops.Stops.is_set.Goals as goal

pub returns-clause-looks : goal.returns-clause-looks
returns-clause-looks c = subst (λ b. Looks c.args.self.now c.look.new.self c.args.context b) (sym (search rules)) (looks c.args.self.now c.look.new.self c.args.context c.look.result c.look.ensures.finds)
