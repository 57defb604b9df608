use Rattle.std.proofs.Common.{◌∙◌}
use Rattle.std.proofs.lemmas.List.{take_all}
use Rattle.std.proofs.lemmas.Option.{same_Some}
use Rattle.chunk_core.proofs.Rendering.{rows_same}
use Rattle.chunk_core.proofs.load.rows_text.Goals as goal

pub returns-in-Ok : goal.returns-in-Ok
returns-in-Ok c =
    let all = take_all c.loop-row.row-index c.args.rows.now c.loop-row-test.false in
    let text = rw all at (same_Some _ _ c.loop-row.invariant.1) in
    c.of_vec.ensures ∙ (c.in-Ok.ensures.ok ∙ (text ∙ rows_same c.args.rows.now))
