-- What the pipes of the stream may be asked.
use Rattle.std.specs.Prelude.{◌≡◌, ◌⊎◌, List, Option}
use Rattle.chunk_core.specs.Elements.{Element, kind_of}
use Rattle.chunk_core.specs.Elements.LoadKind.{Bytes, Rows}
use Rattle.chunk_core.specs.Feed.{Meaning}
use Rattle.chunk_core.specs.declared.code.Code.{Code}
use Rattle.chunk_core.specs.declared.feed.Fed.{Fed}
use Rattle.chunk_core.specs.declared.feed.Fed.TheVariants as fed
use Rattle.pull_nodes.specs.Pipes.{meaning}
use Rattle.pull_nodes.specs.declared.pipe.Pipe.TheVariants as pipe
use Rattle.csv_pipes.specs.CsvState as csv
use Rattle.csv_pipes.specs.LookupState as lookup
use Rattle.csv_pipes.specs.declared.csv_pipe.CsvPipe.{CsvPipe}
use Rattle.csv_pipes.specs.declared.lookup_pipe.LookupPipe.{LookupPipe}

-- the pipe gathers, and may be fed more
abbrev pub MayRead : CsvPipe → Type 0
MayRead q = (xs : List Element) × csv.StandsFor q (meaning pipe.Csv Bytes Rows) xs

-- it may be asked for rows
abbrev pub MayGive : CsvPipe → Type 0
MayGive q = MayRead q ⊎ ((ys : List Element) × (c : Option Code) × csv.Comes q Rows ys c)

-- it gave rows and may be asked again, or it has ended
abbrev pub Gave : Fed → CsvPipe → Type 0
Gave (fed.Out load) q = (kind_of load ≡ Rows) × MayGive q
Gave fed.End q = Unit {0}
Gave (fed.Fault load c) q = Unit {0}

-- rows may be looked up
abbrev pub MayLookUp : LookupPipe → Type 0
MayLookUp q = (m : Meaning) × (xs : List Element) × lookup.StandsFor q m xs × (m.takes ≡ Rows)
