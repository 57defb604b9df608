-- The kinds of what nodes give.
use Rattle.std.specs.Prelude.{Option, Some, None, option_and_then, option_map}
use Rattle.chunk_core.specs.declared.load.Load.{Load}
use Rattle.chunk_core.specs.declared.load.Load.TheVariants as load
use Rattle.pull_nodes.specs.declared.kind.Kind.{Kind}
use Rattle.pull_nodes.specs.declared.kind.Kind.TheVariants as kind
use Rattle.pull_nodes.specs.PipeKinds.{piped_kind}
use Rattle.pull_nodes.specs.declared.pipe.Pipe.{Pipe}
use Rattle.pull_nodes.specs.Shape.{folded}
use Rattle.pull_nodes.specs.declared.node.Node.{Node}
use Rattle.pull_nodes.specs.declared.node.Node.TheVariants.{Emit, Read, Through', Zip', Merge', Into'}

-- the kind of a load, which an empty one has too
abbrev pub load_kind : Load → Kind
load_kind (load.Bytes bytes) = kind.Bytes
load_kind (load.Lines lines) = kind.Lines
load_kind (load.Rows rows) = kind.Rows

-- one kind of two sides, or none where they differ; Any fits every kind
abbrev pub joined_kind : Kind → Kind → Option Kind
joined_kind kind.Any k = Some k
joined_kind kind.Bytes kind.Any = Some kind.Bytes
joined_kind kind.Bytes kind.Bytes = Some kind.Bytes
joined_kind kind.Bytes kind.Lines = None
joined_kind kind.Bytes kind.Rows = None
joined_kind kind.Lines kind.Any = Some kind.Lines
joined_kind kind.Lines kind.Bytes = None
joined_kind kind.Lines kind.Lines = Some kind.Lines
joined_kind kind.Lines kind.Rows = None
joined_kind kind.Rows kind.Any = Some kind.Rows
joined_kind kind.Rows kind.Bytes = None
joined_kind kind.Rows kind.Lines = None
joined_kind kind.Rows kind.Rows = Some kind.Rows

-- one kind of two sides that have one each
abbrev pub kind_of_sides : Option Kind → Option Kind → Option Kind
kind_of_sides None k = None
kind_of_sides (Some j) None = None
kind_of_sides (Some j) (Some k) = joined_kind j k

-- the kind of the pairs of two sides of this kind: lines make rows of two fields, and no other elements are paired
abbrev pub paired_kind : Kind → Option Kind
paired_kind kind.Any = Some kind.Rows
paired_kind kind.Bytes = None
paired_kind kind.Lines = Some kind.Rows
paired_kind kind.Rows = None

-- the kind of a merge of two sides of this kind: bytes aren't merged
abbrev pub merged_kind : Kind → Option Kind
merged_kind kind.Any = Some kind.Any
merged_kind kind.Bytes = None
merged_kind kind.Lines = Some kind.Lines
merged_kind kind.Rows = Some kind.Rows

-- the kind behind a pipe, or none where it has none or the pipe doesn't take it
abbrev pub kind_behind : Pipe → Option Kind → Option Kind
kind_behind q None = None
kind_behind q (Some k) = piped_kind q k

-- what a node makes of the kind of its parts
abbrev pub kind_at : Node → Option Kind → Option Kind
kind_at (Emit l) k = Some (load_kind l)
kind_at (Read p) k = Some kind.Bytes
kind_at (Through' _ a q) k = kind_behind q k
kind_at (Zip' _ a _ b) k = option_and_then paired_kind k
kind_at (Merge' _ a _ b) k = option_and_then merged_kind k
kind_at (Into' p _ a) k = option_map (λ j. kind.Any) k
kind_at n k = k

-- the kind of a node's elements, or none where a step gets a kind that it doesn't take
abbrev pub node_kind : Node → Option Kind
node_kind n = folded (Some kind.Any) kind_of_sides kind_at n
