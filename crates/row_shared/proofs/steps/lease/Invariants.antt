use Rattle.res_ledger.specs.declared.event.What.TheVariants.{Open}
use Rattle.res_ledger.specs.declared.event.StreamNo.TheVariants.{Outer}
use Rattle.row_shared.proofs.steps.lease.Given as goal

abbrev pub ghosts-lease_as : goal.ghosts-lease_as
ghosts-lease_as g a = record { what = Open 0 0; room = 0; stream = a.stream; from = 0; to = 0; count = 0; name = Outer }
