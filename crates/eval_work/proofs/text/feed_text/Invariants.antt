use Rattle.std.proofs.Common.{◌≡◌, [], length}
use Rattle.chunk_core.specs.Elements.LoadKind.{Bytes}
use Rattle.chunk_core.specs.Feed.{Meaning}
use Rattle.eval_work.proofs.Texts.{FedSoFar}
use Rattle.eval_work.proofs.text.feed_text.Given as goal

abbrev pub invariant-pieces : goal.invariant-pieces
invariant-pieces g l = (m : Meaning) → g.F.Feed.stands l.fn.pipe m [] → m.takes ≡ Bytes → FedSoFar m l.fn.bytes l.left l.text.items (g.F.Feed.stands l.pipe m)

abbrev pub decreases-pieces : goal.decreases-pieces
decreases-pieces g l = length l.left
