-- The kinds that pipes take and give.
use Rattle.std.specs.Prelude.{Option, Some, option_map}
use Rattle.chunk_core.specs.Elements.{LoadKind}
use Rattle.chunk_core.specs.Elements.LoadKind.{Bytes, Lines, Rows}
use Rattle.pull_nodes.specs.Rules.{rule_of}
use Rattle.chunk_core.specs.Tables.{no_values}
use Rattle.pull_nodes.specs.declared.kind.Kind.{Kind}
use Rattle.pull_nodes.specs.declared.kind.Kind.TheVariants as kind
use Rattle.pull_nodes.specs.declared.pipe.Pipe.{Pipe}

-- the kind that the pipe gives of a kind that it takes, or none where it doesn't take it, whatever the tables have
abbrev pub gives_of : Pipe → LoadKind → Option LoadKind
gives_of p k = (rule_of no_values p).gives k

-- the kind of a stream whose loads are of a kind
abbrev pub stream_kind : LoadKind → Kind
stream_kind Bytes = kind.Bytes
stream_kind Lines = kind.Lines
stream_kind Rows = kind.Rows

-- the kind of a pipe behind a stream that gives nothing
abbrev pub kind_of_nothing : Pipe → Kind
kind_of_nothing p = (rule_of no_values p).of_nothing

-- the kind of a pipe behind a stream of a kind, or none where the pipe doesn't take it
abbrev pub piped_kind : Pipe → Kind → Option Kind
piped_kind p kind.Any = Some (kind_of_nothing p)
piped_kind p kind.Bytes = option_map stream_kind (gives_of p Bytes)
piped_kind p kind.Lines = option_map stream_kind (gives_of p Lines)
piped_kind p kind.Rows = option_map stream_kind (gives_of p Rows)
