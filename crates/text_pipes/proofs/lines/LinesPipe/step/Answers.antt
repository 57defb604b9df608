use Rattle.std.proofs.Common.{◌∙◌, sym, refl, ap, arith}
use Rattle.text_pipes.proofs.LinesKnown.{long_from, skip_from, open_from, line_from}
use Rattle.text_pipes.proofs.lines.LinesPipe.step.Goals as goal

pub returns-then-saturating_add-gt-LONGEST : goal.returns-then-saturating_add-gt-LONGEST
returns-then-saturating_add-gt-LONGEST c = (
  c.split_front.result.0.now,
  c.split_front.result.1.now,
  c.split_front.ensures.whole,
  refl,
  long_from c.args.self.now c.split_front.result.0.now c.saturating_add.result c.split_front.ensures.free c.if-saturating_add-gt-LONGEST.true (omega arith),
)

pub returns-then-is_pair : goal.returns-then-is_pair
returns-then-is_pair c =
    skip_from c.args.self.now c.args.bytes.now c.split_front.result.0.now c.split_front.result.1.now c.in-Some.after.now c.in-Some.end.now c.args.lines.now.items
    c.split_front.ensures.whole c.in-Some.ensures.cases.0 (sym c.is_pair.ensures ∙ c.if-is_pair.true)

pub returns-in_ok-extend_from_slice-in-None : goal.returns-in_ok-extend_from_slice-in-None
returns-in_ok-extend_from_slice-in-None c =
    open_from c.args.self.now c.args.bytes.now c.split_front.result.0.now c.split_front.result.1.now c.extend_from_slice.new.self.items c.saturating_add.result c.args.lines.now.items
    c.split_front.ensures.whole c.in-None.ensures.cases c.requires c.split_front.ensures.free c.if-saturating_add-gt-LONGEST.false
    (omega arith) c.in_ok-extend_from_slice-in-None.ensures.items

pub returns-in_ok-push-in-Some : goal.returns-in_ok-push-in-Some
returns-in_ok-push-in-Some c =
    line_from c.args.self.now c.args.bytes.now c.split_front.result.0.now c.split_front.result.1.now c.in-Some.after.now c.of_vec.result c.replace-line.new.dest.items
    c.in-Some.end.now c.saturating_add.result c.args.lines.now.items c.push.new.self.items
    c.split_front.ensures.whole c.in-Some.ensures.cases.0 (rw c.in-Some.ensures.cases.0 at c.split_front.ensures.stops) c.split_front.ensures.free
    (sym c.is_pair.ensures ∙ c.if-is_pair.false) c.if-saturating_add-gt-LONGEST.false (omega arith)
    (c.of_vec.ensures ∙ ap (λ v. v.items) c.replace-line.ensures.value ∙ c.in_ok-extend_from_slice-in-Some.ensures.items)
    c.in_ok-push-in-Some.ensures.items
    (ap (λ v. v.items) c.replace-line.ensures.after ∙ c.empty.ensures)
