-- What each lent value is in the end is what the scope handed back under its name.
use Rattle.std.proofs.Common.{sym}
use Rattle.par_join.proofs.scoped.run_lending.Goals as goal

pub returns : goal.returns
returns g c =
    let r = c.run_scoped-told.ensures in
    rw (c.outcome-2-1.given.1 (sym r.names.0), c.depot-1.given.1 (sym r.names.1), c.out-1.given.1 (sym r.names.2)) r.ran
