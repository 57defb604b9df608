-- The bytes so far, and the next piece behind them.
use Rattle.std.proofs.Common.{drop, sym, subst, arith}
use Rattle.std.proofs.lemmas.List.{length-take}
use Rattle.source_input.specs.Input.{IsRead}
use Rattle.source_input.specs.declared.reading.NotRead.TheVariants as why
use Rattle.source_input.proofs.Inputs.{one_piece_more, read_enough, read_to_end, stopped_by, taken_of}
use Rattle.source_input.proofs.reading.read_source.Goals as goal
use Rattle.source_input.proofs.reading.read_source.Goals.{else-loop-piece-test, then-loop-piece-test+in_ok-count+then-count-eq0}

pub loop-piece-preserved : goal.loop-piece-preserved
loop-piece-preserved g c =
    let e = c.in_ok-count.ensures in
    one_piece_more _ _ _ _ c.loop-piece.bytes.items c.read.new.buf (drop c.min-room.result c.loop-piece.piece) c.extend_from_slice.new.self.items c.in_ok-count.count c.loop-piece.invariant c.if-count-eq0.false e.count
    (omega (arith, e.count, c.read.auto.buf, length-take c.min-room.result c.loop-piece.piece, c.min-room.ensures)) e.ok e.bytes c.in_ok-extend_from_slice.ensures.items

pub returns-in_err-extend_from_slice : goal.returns-in_err-extend_from_slice
returns-in_err-extend_from_slice g c =
    stopped_by _ _ _ c.from_residual-in_err-extend_from_slice.result why.Memory c.from_residual-in_err-extend_from_slice.ensures.1
    (taken_of _ _ _ _ _ c.in_ok-count.count c.loop-piece.invariant (omega (arith, c.in_ok-count.ensures.count, c.read.auto.buf, length-take c.min-room.result c.loop-piece.piece, c.min-room.ensures)) c.in_ok-count.ensures.ok)

pub returns : goal.returns
returns g c =
    subst (λ x. IsRead c.args.most (g.S.Source.told c.args.src.now) (g.S.Source.told c.loop-piece-test.src) x) (sym c.of_vec.ensures) (
    elim c.loop-piece-test.branch [
      | else-loop-piece-test w ↦ subst (λ s. IsRead c.args.most (g.S.Source.told c.args.src.now) (g.S.Source.told s) c.loop-piece.bytes.items) (sym w.src-is) (read_enough _ _ _ _ c.loop-piece.invariant c.requires.some (omega arith))
      | then-loop-piece-test+in_ok-count+then-count-eq0 w ↦ subst (λ s. IsRead c.args.most (g.S.Source.told c.args.src.now) (g.S.Source.told s) c.loop-piece.bytes.items) (sym w.src-is) (read_to_end _ _ _ _ _ w.in_ok-count.count w.if-count-eq0.true (omega arith) c.loop-piece.invariant w.in_ok-count.ensures.ok (w.in_ok-count.ensures.end w.if-count-eq0.true))
    ])
