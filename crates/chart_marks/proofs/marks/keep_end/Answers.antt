use Rattle.std.proofs.Common.{◌≡◌, ◌∙◌, cond, Some, subst, sym}
use Rattle.std.specs.HashMap.{get}
use Rattle.chart_marks.specs.Marks.{end_or, same_thing}
use Rattle.chart_marks.specs.declared.marks.End.{End}
use Rattle.chart_marks.proofs.Things.{same_is}
use Rattle.chart_marks.proofs.marks.keep_end.Goals as goal

pub returns : goal.returns
returns c = λ q.
    let end : End = record { place = c.args.event.stamp; exit = c.in-Some.exit; ok = c.in-Some.ok } in
    subst (λ o. get same_thing c.insert.new.self q ≡ end_or q c.args.event.stamp o (get same_thing c.args.ends.now q)) (sym c.in-Some.is ∙ c.ended_by.ensures)
    (subst (λ f. get f c.insert.new.self q ≡ cond (f c.in-Some.thing q) (Some end) (get f c.args.ends.now q)) same_is (c.in-Ok.ensures.updates.0 q))
