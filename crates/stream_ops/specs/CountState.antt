-- What the state of a pipe that counts stands for.
use Rattle.std.specs.Prelude.{◌≡◌, false, List, [], ◌∷◌, length, Option, None, decimal, if◌then◌else◌}
use Rattle.chunk_core.specs.Elements.{Element, Line, LoadKind}
use Rattle.chunk_core.specs.Elements.LoadKind.{Lines}
use Rattle.chunk_core.specs.Feed.{Meaning}
use Rattle.chunk_core.specs.declared.code.Code.{Code}
use Rattle.pull_nodes.specs.Pipes.{IsMeaningOf}
use Rattle.pull_nodes.specs.Plain.{capped_number}
use Rattle.pull_nodes.specs.declared.pipe.Pipe.TheVariants as pipe
use Rattle.stream_ops.specs.declared.count.CountPipe.{CountPipe}

-- it knows the number of the elements, and has told nothing
abbrev pub StandsFor : CountPipe → Meaning → List Element → Type 0
StandsFor q m xs = IsMeaningOf pipe.Count m × (q.told ≡ false) × (q.count ≡ capped_number (length xs))

-- the line of the number is still to come, where it wasn't told
abbrev pub Comes : CountPipe → LoadKind → List Element → Option Code → Type 0
Comes q kind ys c = (kind ≡ Lines) × (ys ≡ (if q.told then [] else (Line (decimal q.count) ∷ []))) × (c ≡ None)
