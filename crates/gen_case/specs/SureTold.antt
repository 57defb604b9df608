-- What a depot tells of whose devices no open, read or close fails.
use Rattle.device_port.specs.Depot.{DepotTold}
use Rattle.device_port.specs.MemDepot.{depot_told}
use Rattle.gen_case.specs.declared.sure.SureDepot.{SureDepot}

-- what the depot in memory tells
abbrev pub sure_told : SureDepot → DepotTold
sure_told d = depot_told d.depot
