use Rattle.res_ledger.specs.declared.event.What.TheVariants.{Open}
use Rattle.res_ledger.specs.declared.event.StreamNo.TheVariants.{Outer}
use Rattle.row_shared.proofs.steps.meet.Given as goal

abbrev pub ghosts-meet_as : goal.ghosts-meet_as
ghosts-meet_as g a = record { what = Open 0 0; room = a.table.now.key.events; stream = 0; from = 0; to = 0; count = 0; name = Outer }
