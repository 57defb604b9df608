use Rattle.std.proofs.Common.{arith, sym, ◌∙◌}
use Rattle.cut_frames.proofs.Steps.{first_byte, some_bytes, took_end}
use Rattle.cut_frames.proofs.step.step_behind.Goals as goal

pub returns : goal.returns
returns c =
    let full = some_bytes c.args.text.now (sym c.is_empty.ensures ∙ c.if-is_empty.false) in
    (omega arith, full, λ front given w. took_end c.args.wanted front given c.args.gives _ (first_byte c.args.text.now 10 full c.if-text-ne10.false) w)
