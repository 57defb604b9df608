-- Where nothing was made, nothing went back.
use Rattle.std.proofs.Common.{◌<◌, ℕ, List, Option, Result, Ok, Err}
use Rattle.std.specs.Prelude.{OnErr}
use Rattle.device_port.specs.Depot.{DepotTold}
use Rattle.pipeline_desc.specs.Meant.{PlanMeant, stream_limit}
use Rattle.pipeline_desc.specs.Places.{stream_places}
use Rattle.stream_parts.specs.Named.{path_of}
use Rattle.stream_parts.specs.Parts.{MakesNoParts}
use Rattle.stream_parts.proofs.Making.{none_in_vain}
use Rattle.stream_parts.proofs.Naming.{stream_there}

pub no_parts : (p : PlanMeant) (k : ℕ) (path : Option (List ℕ)) (old : DepotTold) → k < stream_limit p → MakesNoParts p k path old old
no_parts p k path old l = let s = stream_there p (path_of path) k l in (s.0, s.1, none_in_vain old (stream_places s.0))

pub on_err : {A E P : Type 0} (r : Result A E) → P → OnErr r P
on_err (Ok x) p = tt
on_err (Err e) p = p
