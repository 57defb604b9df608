-- What the state of a pipe of groups stands for.
use Rattle.std.specs.Prelude.{◌≡◌, ℕ, List, [], map, length, take, Option, None}
use Rattle.chunk_core.specs.Elements.{Element, Byte, Line, Row, LoadKind}
use Rattle.chunk_core.specs.Elements.LoadKind.{Bytes, Lines, Rows}
use Rattle.chunk_core.specs.Feed.{Meaning}
use Rattle.chunk_core.specs.declared.code.Code.{Code}
use Rattle.pull_nodes.specs.Pipes.{IsMeaningOf}
use Rattle.pull_nodes.specs.ChunkN.{group_size}
use Rattle.pull_nodes.specs.Plain.{multiple, ungrouped}
use Rattle.pull_nodes.specs.declared.pipe.Pipe.TheVariants as pipe
use Rattle.stream_ops.specs.declared.chunk_n.ChunkNPipe.{ChunkNPipe}

-- the elements in whole groups of n
abbrev pub in_groups : {A : Type 0} → ℕ → List A → List A
in_groups n xs = take (multiple n (length xs)) xs

-- it keeps these elements of one kind, and none of another
abbrev pub KeepsGroup : ChunkNPipe → LoadKind → List Element → Type 0
KeepsGroup q Bytes ys = (map Byte q.bytes.items ≡ ys) × (q.lines.items ≡ []) × (q.rows.items ≡ [])
KeepsGroup q Lines ys = (map Line q.lines.items ≡ ys) × (q.bytes.items ≡ []) × (q.rows.items ≡ [])
KeepsGroup q Rows ys = (map Row q.rows.items ≡ ys) × (q.bytes.items ≡ []) × (q.lines.items ≡ [])

-- it keeps the elements behind the last whole group
abbrev pub StandsFor : ChunkNPipe → Meaning → List Element → Type 0
StandsFor q m xs = (n : ℕ) × IsMeaningOf (pipe.ChunkN n) m × (q.size ≡ group_size n) × KeepsGroup q m.takes (ungrouped q.size xs)

-- nothing is still to come: what it kept came as one load
abbrev pub Comes : ChunkNPipe → LoadKind → List Element → Option Code → Type 0
Comes q kind ys c = KeepsGroup q kind [] × (ys ≡ []) × (c ≡ None)
