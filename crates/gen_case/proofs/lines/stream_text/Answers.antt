use Rattle.std.proofs.Common.{◌++◌, sym, ap, ◌∙◌}
use Rattle.gen_case.specs.Case.{number_line, number_on}
use Rattle.gen_case.proofs.Counting.{text_more}
use Rattle.gen_case.proofs.lines.stream_text.Goals as goal

pub loop-i-preserved : goal.loop-i-preserved
loop-i-preserved c =
    c.in_ok-extend_from_slice.ensures.items
    ∙ ((λ j. c.loop-i.invariant j ++ (c.line.ensures ∙ ap number_line c.number_on.ensures.value) j) ∙ sym (text_more (λ i. number_line (number_on c.args.case c.args.k i)) c.loop-i.i))
