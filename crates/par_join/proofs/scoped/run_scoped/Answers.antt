-- The closure may be called, since what the workers take may cross threads.
use denote.Param.Send.{sendable}
use Rattle.par_join.proofs.scoped.run_scoped.Goals as goal

pub scoped-requires : goal.scoped-requires
scoped-requires g c = record { at = λ a. ((c.requires.limits, c.requires.room, c.requires.fits, c.requires.values, c.requires.sink), (search sendable, search sendable, search sendable, search sendable, search sendable, search sendable, search sendable)) }
