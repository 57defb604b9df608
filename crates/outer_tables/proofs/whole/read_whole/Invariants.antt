use Rattle.std.proofs.Common.{◌-◌, vec_len}
use Rattle.outer_tables.specs.Whole.{Gives}
use Rattle.outer_tables.proofs.whole.read_whole.Given as goal

-- the bytes are what the device gave so far
abbrev pub invariant-loop-piece : goal.invariant-loop-piece
invariant-loop-piece g l = Gives (g.V.Device.told l.fn.device) (g.V.Device.told l.device) l.bytes.items

abbrev pub decreases-loop-piece : goal.decreases-loop-piece
decreases-loop-piece g l = 16777217 - vec_len l.bytes
