use Rattle.std.proofs.Common.{List, ℕ}
use Rattle.chunk_core.specs.Feed.{Meaning}
use Rattle.list_lines.specs.Lists.{GivesLines, IsAt, OnlyReads, left_to_read}
use Rattle.list_lines.proofs.lines.ListLines.fill.Given as goal

abbrev pub invariant-reads : goal.invariant-reads
invariant-reads g l = record {
  at : (m : Meaning) (given : List (List ℕ)) → GivesLines m → IsAt g.F.Feed.stands m (g.V.Device.told l.fn.device) given l.fn.self → IsAt g.F.Feed.stands m (g.V.Device.told l.device) given l.self;
  device : OnlyReads (g.V.Device.told l.fn.device) (g.V.Device.told l.device);
}

abbrev pub decreases-reads : goal.decreases-reads
decreases-reads g l = left_to_read l.self
