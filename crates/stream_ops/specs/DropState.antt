-- What the state of a pipe that passes over elements stands for.
use Rattle.std.specs.Prelude.{◌≡◌, ℕ, ◌-◌, List, length}
use Rattle.chunk_core.specs.Elements.{Element}
use Rattle.chunk_core.specs.Feed.{Meaning}
use Rattle.pull_nodes.specs.Pipes.{IsMeaningOf}
use Rattle.pull_nodes.specs.declared.pipe.Pipe.TheVariants as pipe
use Rattle.stream_ops.specs.declared.drop.DropPipe.{DropPipe}

-- it knows how many of the first n elements are still to come
abbrev pub StandsFor : DropPipe → Meaning → List Element → Type 0
StandsFor q m xs = (n : ℕ) × IsMeaningOf (pipe.Drop n) m × (q.left ≡ n - length xs)
