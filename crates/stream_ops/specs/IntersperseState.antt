-- What the state of a pipe that puts a line between stands for.
use Rattle.std.specs.Prelude.{◌≡◌, List}
use Rattle.chunk_core.specs.Elements.{Element}
use Rattle.chunk_core.specs.Feed.{Meaning}
use Rattle.pull_nodes.specs.Pipes.{IsMeaningOf}
use Rattle.pull_nodes.specs.declared.pipe.Pipe.TheVariants as pipe
use Rattle.stream_ops.specs.Spread.{is_any}
use Rattle.stream_ops.specs.declared.intersperse.InterspersePipe.{InterspersePipe}

-- it knows the line, and whether an element came
abbrev pub StandsFor : InterspersePipe → Meaning → List Element → Type 0
StandsFor q m xs = IsMeaningOf (pipe.Intersperse q.between) m × (q.started ≡ is_any xs)
