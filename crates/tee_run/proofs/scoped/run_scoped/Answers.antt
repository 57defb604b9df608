-- The closure may be called, since what the branches take may cross threads.
use denote.Param.Send.{sendable}
use Rattle.tee_run.proofs.scoped.run_scoped.Goals as goal

pub scoped-requires : goal.scoped-requires
scoped-requires g c = record { at = λ a. ((c.requires.works, c.requires.begun, c.requires.sink), (search sendable, search sendable, search sendable)) }
