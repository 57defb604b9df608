-- What the state of a pipe of one field stands for.
use Rattle.std.specs.Prelude.{◌≡◌, List, None}
use Rattle.chunk_core.specs.Elements.{Element}
use Rattle.chunk_core.specs.Feed.{Meaning}
use Rattle.pull_nodes.specs.Field.{each_made, field_line}
use Rattle.pull_nodes.specs.Pipes.{IsMeaningOf}
use Rattle.pull_nodes.specs.declared.pipe.Pipe.TheVariants as pipe
use Rattle.csv_pipes.specs.declared.field_pipe.FieldPipe.{FieldPipe}

-- it knows the field's place alone, and stands for every input in which all rows have it
abbrev pub StandsFor : FieldPipe → Meaning → List Element → Type 0
StandsFor q m xs = IsMeaningOf (pipe.Field q.field) m × ((each_made (field_line q.field) xs).fault ≡ None)
