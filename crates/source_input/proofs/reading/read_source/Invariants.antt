use Rattle.std.proofs.Common.{◌-◌, vec_len}
use Rattle.source_input.proofs.Inputs.{IsFront}
use Rattle.source_input.proofs.reading.read_source.Given as goal

-- the bytes are what the source gave so far
abbrev pub invariant-loop-piece : goal.invariant-loop-piece
invariant-loop-piece g l = IsFront l.fn.most (g.S.Source.told l.fn.src) (g.S.Source.told l.src) l.bytes.items

abbrev pub decreases-loop-piece : goal.decreases-loop-piece
decreases-loop-piece g l = l.fn.most - vec_len l.bytes
