-- What a pipe is, as plain data.
use Rattle.std.specs.Prelude.{List, [], Option, Some, None}
use Rattle.chunk_core.specs.Elements.{Element, LoadKind}
use Rattle.chunk_core.specs.Elements.LoadKind.{Bytes, Lines, Rows}
use Rattle.chunk_core.specs.Feed.{Given}
use Rattle.chunk_core.specs.declared.code.Code.{Code}
use Rattle.pull_nodes.specs.declared.kind.Kind.{Kind}

-- the kinds that a pipe takes and gives, and what it gives of elements
pub record PipeRule : Type 0 where
  -- the kind that it gives of a kind that it takes, or none where it doesn't take it
  pub gives : LoadKind → Option LoadKind
  -- the kind behind a stream that gives nothing
  pub of_nothing : Kind
  -- what it has given of an input that may go on
  pub part : List Element → Given
  -- what it gives of a whole input
  pub all : List Element → Given

-- a pipe that takes bytes alone gives this kind of them
abbrev pub from_bytes : LoadKind → LoadKind → Option LoadKind
from_bytes gives Bytes = Some gives
from_bytes gives Lines = None
from_bytes gives Rows = None

-- a pipe that takes lines alone gives this kind of them
abbrev pub from_lines : LoadKind → LoadKind → Option LoadKind
from_lines gives Bytes = None
from_lines gives Lines = Some gives
from_lines gives Rows = None

-- a pipe that takes rows alone gives this kind of them
abbrev pub from_rows : LoadKind → LoadKind → Option LoadKind
from_rows gives Bytes = None
from_rows gives Lines = None
from_rows gives Rows = Some gives

-- a pipe that takes each kind gives the same
abbrev pub same_kind : LoadKind → Option LoadKind
same_kind k = Some k

-- the elements and no fault
abbrev pub without_fault : List Element → Given
without_fault xs = record { list = xs; fault = None }

-- no element and this fault
abbrev pub only_fault : Code → Given
only_fault c = record { list = []; fault = Some c }
