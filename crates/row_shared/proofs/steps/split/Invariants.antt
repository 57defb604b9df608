use Rattle.res_ledger.specs.declared.event.What.TheVariants.{Open}
use Rattle.res_ledger.specs.declared.event.StreamNo.TheVariants.{Outer}
use Rattle.row_shared.proofs.steps.split.Given as goal

abbrev pub ghosts-split_as : goal.ghosts-split_as
ghosts-split_as g a = record { what = Open 0 0; room = 0; stream = a.stream; from = a.rows.from; to = a.rows.to; count = a.events; name = Outer }
