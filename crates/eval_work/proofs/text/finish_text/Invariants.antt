use Rattle.std.proofs.Common.{◌-◌, ◌^◌, List, vec_len}
use Rattle.chunk_core.specs.Elements.{Element}
use Rattle.chunk_core.specs.Feed.{Meaning}
use Rattle.eval_work.proofs.Texts.{GoesText}
use Rattle.eval_work.proofs.text.finish_text.Given as goal

abbrev pub invariant-answers : goal.invariant-answers
invariant-answers g l =
    (m : Meaning) (xs : List Element) → g.F.Feed.stands l.fn.pipe m xs → GoesText m xs l.fn.text.items l.text.items (g.F.Feed.stands l.pipe m xs) (g.F.Feed.comes l.pipe)

abbrev pub decreases-answers : goal.decreases-answers
decreases-answers g l = 2 ^ 64 - vec_len l.text
