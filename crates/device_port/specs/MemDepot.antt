-- What a depot in memory tells.
use Rattle.std.specs.Prelude.{Some, map}
use Rattle.device_port.specs.Depot.{DepotTold}
use Rattle.device_port.specs.Records.{record_told}
use Rattle.device_port.specs.Files.{bytes_at, place_of}
use Rattle.device_port.specs.declared.mem_depot.MemDepot.{MemDepot}

-- its files, the places of the devices made, and the records of those that came back
abbrev pub depot_told : MemDepot → DepotTold
depot_told d = record {
  files = Some (bytes_at d.files d.retired.items);
  made = map place_of d.made.items;
  retired = map record_told d.retired.items;
}
