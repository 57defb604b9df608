-- What the state of a pipe of changes stands for.
use Rattle.std.specs.Prelude.{◌≡◌, List, None, slice_get}
use Rattle.std.specs.List.{last_or}
use Rattle.chunk_core.specs.Elements.{Element, elements}
use Rattle.chunk_core.specs.Feed.{Meaning}
use Rattle.pull_nodes.specs.Pipes.{IsMeaningOf}
use Rattle.pull_nodes.specs.declared.pipe.Pipe.TheVariants as pipe
use Rattle.stream_ops.specs.declared.changes.ChangesPipe.{ChangesPipe}

-- it keeps the last element
abbrev pub StandsFor : ChangesPipe → Meaning → List Element → Type 0
StandsFor q m xs = IsMeaningOf pipe.Changes m × (slice_get (elements q.last) 0 ≡ last_or None xs)
