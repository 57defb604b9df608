use Rattle.std.proofs.Common.{length}
use Rattle.tee_prints.proofs.Coming.{branch_came, text_came}
use Rattle.tee_prints.proofs.printer.Printer.take.Goals as goal

pub print-requires-clause-text : goal.print-requires-clause-text
print-requires-clause-text g c = let f = c.in-Some.ensures.first in text_came c.args.self.now.receiver c.in-Some.message f.0 f.1

pub print-requires-clause-branch : goal.print-requires-clause-branch
print-requires-clause-branch g c = let f = c.in-Some.ensures.first in branch_came (length c.args.self.now.ends.items) c.args.self.now.receiver c.in-Some.message f.0 f.1 c.requires.branches
