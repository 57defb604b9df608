-- The text so far, and one piece more.
use Rattle.std.proofs.Common.{arith}
use Rattle.source_input.proofs.Inputs.{read_to_end}
use Rattle.cut_text.specs.Cuttings.{most_pieces, most_read}
use Rattle.cut_text.proofs.Passing.{not_passed, passed_more, short_of_all, stopped_by}
use Rattle.cut_text.proofs.run.pass_frames.Goals as goal

pub returns-then-count-eq0 : goal.returns-then-count-eq0
returns-then-count-eq0 g c =
    let i = c.pieces.invariant in
    let w = i.way in
    let e = c.in-Ok.ensures in (
      w.text,
      read_to_end most_read _ _ _ w.text c.in-Ok.count c.if-count-eq0.true (short_of_all most_pieces c.pieces.left _ (omega (arith, c.pieces-test.true)) i.left w.few) w.read e.ok (e.end c.if-count-eq0.true),
      w.passes,
      w.held,
    )

pub returns-in_err-passed : goal.returns-in_err-passed
returns-in_err-passed g c =
    let i = c.pieces.invariant in
    let e = c.in-Ok.ensures in
    stopped_by _ _ _ _ _ c.pass_piece.new.cutter c.from_residual.result c.in_err-passed.field-0.0 c.from_residual.ensures.1
    (not_passed _ _ _ _ _ _ _ _ _ c.read.new.buf c.in-Ok.count c.pieces.passed c.pieces.left i.way (omega (arith, c.pieces-test.true)) i.left c.if-count-eq0.false e.count (omega (arith, c.read.auto.buf)) e.ok e.bytes c.pass_piece.new.cutter
    c.in_err-passed.field-0.0 c.in_err-passed.ensures)

pub pieces-preserved : goal.pieces-preserved
pieces-preserved g c =
    let i = c.pieces.invariant in
    let e = c.in-Ok.ensures in
    record {
      way = passed_more _ _ _ _ _ _ _ _ _ c.read.new.buf c.in-Ok.count c.pieces.passed c.pieces.left i.way (omega (arith, c.pieces-test.true)) i.left c.if-count-eq0.false e.count (omega (arith, c.read.auto.buf)) e.ok e.bytes
          c.in_ok-passed.field-0 c.in_ok-passed.ensures;
      left = omega (arith, i.left);
    }
