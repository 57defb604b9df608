-- What a pipe of capitals stands for.
use Rattle.std.specs.Prelude.{◌≡◌, List, [], Option, None}
use Rattle.chunk_core.specs.Elements.{Element, LoadKind}
use Rattle.chunk_core.specs.Feed.{Meaning}
use Rattle.chunk_core.specs.declared.code.Code.{Code}
use Rattle.pull_nodes.specs.Pipes.{IsMeaningOf}
use Rattle.pull_nodes.specs.declared.pipe.Pipe.TheVariants as pipe
use Rattle.text_pipes.specs.declared.upper.UpperPipe.{UpperPipe}

-- it keeps nothing, and stands for every input of the pipe
abbrev pub StandsFor : UpperPipe → Meaning → List Element → Type 0
StandsFor q m xs = IsMeaningOf pipe.Upper m

-- nothing is still to come
abbrev pub Comes : UpperPipe → LoadKind → List Element → Option Code → Type 0
Comes q kind ys c = (ys ≡ []) × (c ≡ None)
