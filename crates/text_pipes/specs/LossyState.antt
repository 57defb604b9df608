-- What the state of a pipe of lossy text stands for.
use Rattle.std.specs.Prelude.{◌≡◌, List, [], Option, None}
use Rattle.chunk_core.specs.Elements.{Element, LoadKind}
use Rattle.chunk_core.specs.Feed.{Meaning}
use Rattle.chunk_core.specs.declared.code.Code.{Code}
use Rattle.pull_nodes.specs.Pipes.{IsMeaningOf}
use Rattle.pull_nodes.specs.Plain.{bytes_of}
use Rattle.pull_nodes.specs.Utf8.{unfinished_rest}
use Rattle.pull_nodes.specs.declared.pipe.Pipe.TheVariants as pipe
use Rattle.text_pipes.specs.declared.lossy.LossyPipe.{LossyPipe}

-- the state stands for this input of the pipe: what is held back is an unfinished character at its end
abbrev pub StandsFor : LossyPipe → Meaning → List Element → Type 0
StandsFor q m xs = IsMeaningOf pipe.Lossy m × (q.held.items ≡ unfinished_rest (bytes_of xs))

-- nothing is still to come
abbrev pub Comes : LossyPipe → LoadKind → List Element → Option Code → Type 0
Comes q kind ys c = (q.held.items ≡ []) × (ys ≡ []) × (c ≡ None)
