-- The header was written, and then the line behind it.
use Rattle.device_port.proofs.Puts.{joined}
use Rattle.frames.proofs.frame.put_in_parts.Goals as goal

pub returns : goal.returns
returns g c = joined _ _ _ _ _ c.put_line.result c.in_ok-put.ensures c.put_line.ensures
