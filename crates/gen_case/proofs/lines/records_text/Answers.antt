use Rattle.std.proofs.Common.{◌++◌, sym, ◌∙◌}
use Rattle.gen_case.specs.Case.{row_text}
use Rattle.gen_case.proofs.Counting.{text_more}
use Rattle.gen_case.proofs.lines.records_text.Goals as goal

pub loop-number-preserved : goal.loop-number-preserved
loop-number-preserved c = c.in_ok-extend_from_slice.ensures.items ∙ ((λ j. c.loop-number.invariant j ++ c.row.ensures j) ∙ sym (text_more row_text c.loop-number.number))
