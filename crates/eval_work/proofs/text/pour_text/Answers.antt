-- What was fed up to a fault, or all of it and the end.
use Rattle.std.proofs.Common.{◌≡◌, List, [], ◌∙◌, sym}
use Rattle.std.proofs.lemmas.Result.{IfOk-weaker}
use Rattle.chunk_core.specs.Elements.{Element, elements_of}
use Rattle.chunk_core.specs.Elements.LoadKind.{Bytes}
use Rattle.chunk_core.specs.Feed.{Meaning}
use Rattle.eval_work.specs.Texts.{FinishesText, PoursText}
use Rattle.eval_work.proofs.Texts.{stands_for_all, text_early, text_late}
use Rattle.eval_work.proofs.text.pour_text.Goals as goal

pub returns-then-is_some : goal.returns-then-is_some
returns-then-is_some g c m s takes =
    text_early m c.args.bytes c.in_ok-fed.fed.text.items (g.F.Feed.stands c.feed_text.new.pipe m) c.in_ok-fed.fed.fault (c.in_ok-fed.ensures m s takes) (sym c.is_some.ensures ∙ c.if-is_some.true)

pub finish_text-requires : goal.finish_text-requires
finish_text-requires g c =
    let r = c.requires in
    let f = c.in_ok-fed.ensures r.0 r.1 r.2 in
    (r.0, elements_of f.loads, stands_for_all r.0 c.args.bytes c.in_ok-fed.fed.text.items (g.F.Feed.stands c.feed_text.new.pipe r.0) c.in_ok-fed.fed.fault (sym c.is_some.ensures ∙ c.if-is_some.false) f)

pub returns : goal.returns
returns g c =
    IfOk-weaker c.finish_text.result
    (λ p. (m : Meaning) (xs : List Element) → g.F.Feed.stands c.feed_text.new.pipe m xs → FinishesText m xs c.in_ok-fed.fed.text.items p.text.items p.fault)
    (λ p. (m : Meaning) → g.F.Feed.stands c.args.pipe m [] → m.takes ≡ Bytes → PoursText m c.args.bytes p.text.items p.fault)
    (λ p ends m s takes.
    text_late m c.args.bytes c.in_ok-fed.fed.text.items (g.F.Feed.stands c.feed_text.new.pipe m) c.in_ok-fed.fed.fault p.text.items p.fault (c.in_ok-fed.ensures m s takes) (sym c.is_some.ensures ∙ c.if-is_some.false) (ends m))
    c.finish_text.ensures
