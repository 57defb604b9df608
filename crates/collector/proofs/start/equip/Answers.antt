use Rattle.collector.proofs.NoParts.{no_parts, on_err}
use Rattle.collector.proofs.start.equip.Goals as goal

pub returns-in_err-own-clause-unmade : goal.returns-in_err-own-clause-unmade
returns-in_err-own-clause-unmade g c = on_err _ (no_parts c.args.plan.now c.args.k c.args.path.now (g.D.Depot.told c.args.depot.now) c.requires.within)
