-- The bytes so far, and the next piece behind them.
use Rattle.std.proofs.Common.{drop, arith}
use Rattle.std.proofs.lemmas.List.{length-take}
use Rattle.outer_tables.proofs.Pieces.{one_piece_more}
use Rattle.outer_tables.proofs.whole.read_whole.Goals as goal

pub loop-piece-preserved : goal.loop-piece-preserved
loop-piece-preserved g c =
    let e = c.in-Ok.ensures in
    one_piece_more _ _ _ c.loop-piece.bytes.items c.read.new.buf (drop c.min-room.result c.loop-piece.piece) c.extend_from_slice.new.self.items c.in-Ok.count c.loop-piece.invariant e.count
    (omega (arith, e.count, c.read.auto.buf, length-take c.min-room.result c.loop-piece.piece, c.min-room.ensures)) e.ok e.bytes c.in_ok-extend_from_slice.ensures.items
