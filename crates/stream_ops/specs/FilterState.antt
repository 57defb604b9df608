-- What the state of a pipe that keeps some lines stands for.
use Rattle.std.specs.Prelude.{List}
use Rattle.chunk_core.specs.Elements.{Element}
use Rattle.chunk_core.specs.Feed.{Meaning}
use Rattle.pull_nodes.specs.Pipes.{IsMeaningOf}
use Rattle.pull_nodes.specs.declared.pipe.Pipe.TheVariants as pipe
use Rattle.stream_ops.specs.declared.filter.FilterPipe.{FilterPipe}

-- it knows the text that it looks for alone, and stands for every input of the pipe
abbrev pub StandsFor : FilterPipe → Meaning → List Element → Type 0
StandsFor q m xs = IsMeaningOf (pipe.Filter q.finder.value) m
