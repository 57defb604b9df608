-- It was halted as it stood.
use Rattle.std.proofs.Common.{sym}
use Rattle.lone_stream.proofs.Stepped.{halted, halted_so}
use Rattle.lone_stream.proofs.turns.stop.Goals as goal

pub returns-in-None-clause-stepped : goal.returns-in-None-clause-stepped
returns-in-None-clause-stepped g c k a given r =
    let e = c.halt.ensures in
    halted _ _ k a _ given r (sym c.in-None.ensures) _ e.since e.halts e.cut

pub returns-in-None-clause-how : goal.returns-in-None-clause-how
returns-in-None-clause-how g c = let q = c.requires.stepped in halted_so _ _ q.0 q.1 _ q.2 q.3 (sym c.in-None.ensures) _ c.halt.ensures.halts
