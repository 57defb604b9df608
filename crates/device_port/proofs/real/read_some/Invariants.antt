use Rattle.std.specs.Io.KnownBytes.{Keeps}
use Rattle.device_port.proofs.real.read_some.Given as goal

-- nothing was done so far
abbrev pub invariant-loop : goal.invariant-loop
invariant-loop g l = Keeps (g.R.Read.remaining l.fn.reader) (g.R.Read.remaining l.reader)
