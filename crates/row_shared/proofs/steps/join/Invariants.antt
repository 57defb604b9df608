use Rattle.res_ledger.specs.declared.event.What.TheVariants.{Open}
use Rattle.row_shared.proofs.steps.join.Given as goal

abbrev pub ghosts-join_as : goal.ghosts-join_as
ghosts-join_as g a = record { what = Open 0 0; room = 0; stream = 0; from = 0; to = 0; count = 0; name = a.name }
