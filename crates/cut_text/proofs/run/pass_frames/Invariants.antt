use Rattle.std.proofs.Common.{◌-◌, ◌≤◌}
use Rattle.cut_text.specs.Cuttings.{most_pieces}
use Rattle.cut_text.proofs.Passing.{UnderWay}
use Rattle.cut_text.proofs.run.pass_frames.Given as goal

-- what was read so far is passed on
abbrev pub invariant-pieces : goal.invariant-pieces
invariant-pieces g l = record {
  way : UnderWay l.fn.cutter.wanted (g.S.Source.told l.fn.src) (g.S.Source.told l.src) (g.K.Sink.told l.fn.out) (g.K.Sink.told l.out) l.cutter l.passed (most_pieces - l.left);
  left : l.left ≤ most_pieces;
}

abbrev pub decreases-pieces : goal.decreases-pieces
decreases-pieces g l = l.left
