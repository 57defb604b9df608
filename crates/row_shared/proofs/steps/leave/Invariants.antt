use Rattle.res_ledger.specs.declared.event.What.TheVariants.{Open}
use Rattle.res_ledger.specs.declared.event.StreamNo.TheVariants.{Outer}
use Rattle.row_shared.proofs.steps.leave.Given as goal

abbrev pub ghosts-quit_as : goal.ghosts-quit_as
ghosts-quit_as g a = record { what = Open 0 0; room = 0; stream = a.stream; from = 0; to = 0; count = 0; name = Outer }
