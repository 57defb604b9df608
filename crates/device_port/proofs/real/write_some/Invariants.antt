use Rattle.std.specs.Io.KnownBytes.{Keeps}
use Rattle.device_port.proofs.real.write_some.Given as goal

-- nothing was done so far
abbrev pub invariant-loop : goal.invariant-loop
invariant-loop g l = Keeps (g.W.Write.contents l.fn.writer) (g.W.Write.contents l.writer)
