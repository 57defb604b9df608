use Rattle.collector.proofs.NoParts.{no_parts, on_err}
use Rattle.collector.proofs.start.make_one.Goals as goal

pub returns-in_err-tables-clause-unmade : goal.returns-in_err-tables-clause-unmade
returns-in_err-tables-clause-unmade g c = on_err _ (no_parts c.args.plan.now c.args.k c.args.path.now (g.D.Depot.told c.args.depot.now) c.requires.within)
