use Rattle.std.proofs.Common.{sym, ◌∙◌}
use Rattle.res_ledger.specs.Ledger.LiesWithin.{same}
use Rattle.ledger_books.proofs.Jumping.{within_then}
use Rattle.ledger_books.proofs.jumps.Jumps.way.Goals as goal

pub returns-in_default-clause-above : goal.returns-in_default-clause-above
returns-in_default-clause-above c = λ P f. same c.args.parent

pub returns-in_default-leap-clause-above : goal.returns-in_default-leap-clause-above
returns-in_default-leap-clause-above c = λ P f. same c.args.parent

pub returns-clause-above : goal.returns-clause-above
returns-clause-above c = λ P f.
    let a = f c.args.by c.args.parent c.in-Some.first (sym c.find.ensures ∙ c.in-Some.is) in
    let b = f c.args.by c.in-Some.first.above c.in-Some-leap.second c.in-Some-leap.ensures in
    within_then a.1 b.1
