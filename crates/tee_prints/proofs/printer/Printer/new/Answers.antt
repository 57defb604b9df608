use Rattle.std.proofs.Common.{◌+◌, sym, subst, arith}
use Rattle.tee_prints.proofs.Beginning.{Untold, begins, none_more}
use Rattle.tee_prints.proofs.printer.Printer.new.Goals as goal

pub loop-i-preserved : goal.loop-i-preserved
loop-i-preserved c = subst (λ l. Untold (c.loop-i.i + 1) l) (sym c.in_ok-push.ensures.items) (none_more c.loop-i.i c.loop-i.ends.items c.loop-i.invariant)

pub returns-clause-prints : goal.returns-clause-prints
returns-clause-prints c = let test = c.loop-i-test.false in let end = c.loop-i.auto.i-end in λ sink. begins c.args.branches c.loop-i.i sink c.loop-i.ends.items c.loop-i.invariant (omega arith)
