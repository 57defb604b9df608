-- It was halted only where the branches must stop.
use Rattle.chunk_core.specs.Elements.{Bytes}
use Rattle.tee_run.proofs.read.obey.Goals as goal

pub stop-requires-clause-stepped : goal.stop-requires-clause-stepped
stop-requires-clause-stepped g c = let q = c.requires.stepped in (Bytes, q.0, q.1, q.2)

pub returns-then-is_stopped-clause-stepped : goal.returns-then-is_stopped-clause-stepped
returns-then-is_stopped-clause-stepped g c = λ a given s. c.stop.ensures.stepped Bytes a given s
