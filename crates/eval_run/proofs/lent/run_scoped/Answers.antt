-- The closure may be called, since what the hands take may cross threads.
use denote.Param.Send.{sendable}
use Rattle.eval_run.proofs.lent.run_scoped.Goals as goal

pub scoped-requires : goal.scoped-requires
scoped-requires g c = record { at = λ a. ((c.requires.staff, c.requires.size, c.requires.fits, c.requires.reading, c.requires.sink), (search sendable, search sendable, search sendable, search sendable)) }
