-- What the state of a pipe that numbers lines stands for.
use Rattle.std.specs.Prelude.{◌≡◌, List, length}
use Rattle.chunk_core.specs.Elements.{Element}
use Rattle.chunk_core.specs.Feed.{Meaning}
use Rattle.pull_nodes.specs.Pipes.{IsMeaningOf}
use Rattle.pull_nodes.specs.Plain.{capped_number}
use Rattle.pull_nodes.specs.declared.pipe.Pipe.TheVariants as pipe
use Rattle.stream_ops.specs.declared.number.NumberPipe.{NumberPipe}

-- it knows how many lines came
abbrev pub StandsFor : NumberPipe → Meaning → List Element → Type 0
StandsFor q m xs = IsMeaningOf pipe.Number m × (q.next ≡ capped_number (length xs))
