use Rattle.std.proofs.Common.{◌≡◌, ◌∙◌, [], ◌∷◌, ◌++◌, Option, ap, subst, sym}
use Rattle.std.specs.HashMap.{get}
use Rattle.chart_marks.specs.Marks.{mark_for, same_thing}
use Rattle.chart_marks.specs.declared.marks.End.{End}
use Rattle.chart_marks.specs.declared.marks.Mark.{Mark}
use Rattle.chart_marks.proofs.Things.{same_is}
use Rattle.chart_marks.proofs.marks.add_mark.Goals as goal

pub returns : goal.returns
returns c =
    let e = c.args.event in
    let with_end : Option End → Mark = λ v. record { by = e.by; thing = c.in-Some.thing; scope = c.in-Some.scope; begin = e.stamp; end = v } in
    subst (λ o. c.push.new.self.items ≡ c.args.marks.now.items ++ mark_for e o (λ q. get same_thing c.args.ends.now q)) (sym c.in-Some.is ∙ c.begun_by.ensures)
    (c.in_ok-push.ensures.items ∙ ap (λ v. c.args.marks.now.items ++ with_end v ∷ []) (c.copied-end.ensures ∙ c.get.ensures.value ∙ ap (λ f. get f c.args.ends.now c.in-Some.thing) same_is))
