-- What the state of a pipe of hexadecimal lines stands for.
use Rattle.std.specs.Prelude.{◌≡◌, List, Option, None, map}
use Rattle.chunk_core.specs.Elements.{Element, Line, LoadKind}
use Rattle.chunk_core.specs.Elements.LoadKind.{Lines}
use Rattle.chunk_core.specs.Feed.{Meaning}
use Rattle.chunk_core.specs.declared.code.Code.{Code}
use Rattle.pull_nodes.specs.Pipes.{IsMeaningOf}
use Rattle.pull_nodes.specs.Hex.{hex_line}
use Rattle.pull_nodes.specs.Plain.{bytes_of, if_any, ungrouped}
use Rattle.pull_nodes.specs.declared.pipe.Pipe.TheVariants as pipe
use Rattle.text_pipes.specs.declared.hexadecimal.HexPipe.{HexPipe}

-- it keeps the bytes behind the last whole group of 16
abbrev pub StandsFor : HexPipe → Meaning → List Element → Type 0
StandsFor q m xs = IsMeaningOf pipe.Hex m × (q.held.items ≡ ungrouped 16 (bytes_of xs))

-- a line of them is still to come, where there are some
abbrev pub Comes : HexPipe → LoadKind → List Element → Option Code → Type 0
Comes q kind ys c = (kind ≡ Lines) × (ys ≡ map Line (if_any (hex_line q.held.items))) × (c ≡ None)
