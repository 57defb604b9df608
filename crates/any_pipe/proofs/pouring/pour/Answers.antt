use Rattle.std.proofs.lemmas.Result.{IfOk-weaker}
use Rattle.chunk_core.specs.Elements.{Element, elements_of}
use Rattle.chunk_core.specs.Feed.{Meaning}
use Rattle.std.proofs.Common.{List, ◌++◌, sym, ◌∙◌}
use Rattle.any_pipe.specs.Pouring.{AreOf, FinishesAll, Pours}
use Rattle.any_pipe.proofs.Whole.{poured_early, poured_late}
use Rattle.any_pipe.proofs.pouring.pour.Goals as goal

pub returns-then-is_some : goal.returns-then-is_some
returns-then-is_some g c m xs s are =
    poured_early m xs c.args.loads.items c.in_ok-fed.fed.loads.items c.in_ok-fed.fed.fault (g.F.Feed.stands c.feed_all.new.pipe m) (c.in_ok-fed.ensures m xs s are)
    (sym c.is_some.ensures ∙ c.if-is_some.true)

pub returns : goal.returns
returns g c =
    IfOk-weaker c.finish_all.result
    (λ p. (m : Meaning) (xs : List Element) → g.F.Feed.stands c.feed_all.new.pipe m xs → FinishesAll m xs c.in_ok-fed.fed.loads.items p.loads.items p.fault)
    (λ p. (m : Meaning) (xs : List Element) → g.F.Feed.stands c.args.pipe m xs → AreOf m.takes c.args.loads.items → Pours m xs c.args.loads.items p.loads.items p.fault)
    (λ p ends m xs s are.
    poured_late m xs c.args.loads.items c.in_ok-fed.fed.loads.items p.loads.items c.in_ok-fed.fed.fault p.fault (g.F.Feed.stands c.feed_all.new.pipe m) (c.in_ok-fed.ensures m xs s are) (sym c.is_some.ensures ∙ c.if-is_some.false)
    (ends m (xs ++ elements_of c.args.loads.items)))
    c.finish_all.ensures
