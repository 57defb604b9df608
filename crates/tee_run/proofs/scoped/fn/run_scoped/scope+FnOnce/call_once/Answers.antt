-- What the closure asks is what its call was asked.
use Rattle.tee_run.proofs.scoped.fn.run_scoped.scope+FnOnce.call_once.Goals as goal

pub scope-requires : goal.scope-requires
scope-requires g c = let t = c.requires.1.1.1.1.1.1.1.1.1 in (t.1.0, (t.1.1, (t.1.2, t.0)))
