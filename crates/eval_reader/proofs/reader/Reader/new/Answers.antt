-- Nothing was read.
use Rattle.eval_reader.proofs.Grouping.{begins}
use Rattle.eval_reader.proofs.reader.Reader.new.Goals as goal

pub returns-clause-grouping : goal.returns-clause-grouping
returns-clause-grouping g c can kind n = let e = c.new.ensures in begins _ _ _ e.lines e.count e.text can kind n
