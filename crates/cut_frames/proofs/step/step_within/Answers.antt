use Rattle.std.proofs.Common.{arith, sym, ◌∙◌}
use Rattle.std.proofs.lemmas.List.{length-take-le}
use Rattle.cut_frames.proofs.Steps.{some_bytes, took_part}
use Rattle.cut_frames.proofs.step.step_within.Goals as goal

pub returns : goal.returns
returns c =
    let full = some_bytes c.args.text.now (sym c.is_empty.ensures ∙ c.if-is_empty.false) in (
      omega (arith, c.min-count.ensures, full, c.requires),
      omega (arith, c.min-count.ensures),
      λ front given w. took_part c.args.wanted front given c.args.left c.min-count.result c.args.gives _ (length-take-le c.min-count.result c.args.text.now (omega (arith, c.min-count.ensures))) (omega (arith, c.min-count.ensures)) w,
    )
