use Rattle.std.proofs.Common.{◌≡◌, ◌++◌, [], ◌∙◌, refl, ap, append_assoc, true}
use Rattle.std.proofs.lemmas.List.{append-nil}
use Rattle.text_pipes.proofs.LinesSteps.{fed_none, fed_then, fed_long}
use Rattle.text_pipes.proofs.lines.LinesPipe.take.Goals as goal

pub steps-init : goal.steps-init
steps-init c = ([], refl, rw c.new-lines.ensures.items (fed_none c.args.self.now))

pub steps-preserved : goal.steps-preserved
steps-preserved c =
    let (x, whole, fed) = c.steps.invariant in
    let (y, ms, step_whole, less, new, next) = rw c.in-Some.is at c.in_ok-more.ensures in (
      x ++ y,
      append_assoc x y _ ∙ (ap (λ z. x ++ z) step_whole ∙ whole),
      rw new (fed_then c.args.self.now c.steps.self c.step.new.self x y c.steps.lines.items ms _ fed next),
    )

pub returns-in-None : goal.returns-in-None
returns-in-None c =
    let (x, whole, fed) = c.steps.invariant in
    let (y, left, step_whole, same, next) = rw c.in-None.is at c.in_ok-more.ensures in
    let all : (x ++ y) ++ left ≡ c.args.bytes.now = append_assoc x y left ∙ (ap (λ z. x ++ z) step_whole ∙ whole) in
    let both = rw append-nil at (fed_then c.args.self.now c.steps.self c.step.new.self x y c.steps.lines.items [] true fed next) in
    rw (← all, same) (fed_long c.args.self.now c.step.new.self c.step.new.self (x ++ y) left c.steps.lines.items both)
