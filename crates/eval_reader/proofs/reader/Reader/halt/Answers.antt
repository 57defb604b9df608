-- It was halted as it stood.
use Rattle.eval_reader.proofs.Grouping.{itself_still, stopped}
use Rattle.eval_reader.proofs.reader.Reader.halt.Goals as goal

pub returns-clause-stopped : goal.returns-clause-stopped
returns-clause-stopped g c a n groups k = stopped _ _ n a _ groups k _ _ (c.stop.ensures.reading a k.given k.reading) c.stop.ensures.how (itself_still _)
