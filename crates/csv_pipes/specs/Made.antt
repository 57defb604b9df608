-- What is made of rows, where some may lack a field.
use Rattle.std.specs.Prelude.{Bool, List, Option, Some, None, if◌then◌else◌}
use Rattle.chunk_core.specs.Elements.{Element}
use Rattle.chunk_core.specs.Feed.{Given}
use Rattle.chunk_core.specs.declared.code.Code.{Code}
use Rattle.chunk_core.specs.declared.code.Code.TheVariants as code

-- a fault, unless all rows have the field
abbrev pub fault_unless : Bool → Option Code
fault_unless all = if all then None else Some code.NoField

-- what was made of the rows that have it, and the fault
abbrev pub made_of : List Element → Bool → Given
made_of ys all = record { list = ys; fault = fault_unless all }
