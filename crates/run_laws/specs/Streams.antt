-- What the streams of these runs may give: files through steps, and what few other forms they need.
use Rattle.std.specs.Prelude.{ℕ, if◌then◌else◌, List, [], ◌∷◌, Option, Some, None, codes}
use Rattle.std.specs.Str.{bytes_eq}
use Rattle.chunk_core.specs.Feed.{Given}
use Rattle.chunk_core.specs.Outcomes.{Outcomes}
use Rattle.chunk_core.specs.declared.code.Code.{Code}
use Rattle.chunk_core.specs.declared.code.Code.TheVariants as code
use Rattle.device_port.specs.Device.{DeviceTold, to_read}
use Rattle.chunk_core.specs.Tables.{no_values}
use Rattle.pull_nodes.specs.PipeRule.{without_fault}
use Rattle.pull_nodes.specs.Pipes.{part_of, all_of}
use Rattle.pull_nodes.specs.Runs.{OpensThen, OrLeft, Piped, Reads, ReadsWhole}
use Rattle.pull_nodes.specs.declared.pipe.Pipe.{Pipe}
use Rattle.run_rules.specs.Work.{Opener, Stream, Work}

-- A, which writes nothing, runs and may be left at any time
abbrev pub Leaves : Outcomes → Outcomes
Leaves A = OrLeft (Unit {0}) A

-- a file is opened for A, and may be left at any time
abbrev pub InFile : DeviceTold → Outcomes → Outcomes
InFile d A = Leaves (OpensThen d (Leaves A) (Unit {0}))

-- what A gives goes through a pipe
abbrev pub ThroughPipe : Outcomes → Pipe → Outcomes
ThroughPipe A p = Piped (part_of no_values p) (all_of no_values p) A

-- what A gives goes through these pipes, one after another, each of which may be left
abbrev pub ThroughPipes : Outcomes → List Pipe → Outcomes
ThroughPipes A [] = A
ThroughPipes A (p ∷ ps) = ThroughPipes (ThroughPipe (Leaves A) p) ps

-- the same, where nothing is left
abbrev pub ThroughWhole : Outcomes → List Pipe → Outcomes
ThroughWhole A [] = A
ThroughWhole A (p ∷ ps) = ThroughWhole (ThroughPipe A p) ps

-- what A gives is gathered, and at its end this is given, and then a fault or none
abbrev pub Gathered : Outcomes → Given → Outcomes
Gathered A given = Piped (λ xs. without_fault []) (λ xs. given) A

-- The works.

-- the tables have one key, with one of two values
abbrev pub value_in : List ℕ → List ℕ → Option (List ℕ)
value_in bytes key = if bytes_eq key (codes "k") then (if bytes_eq bytes (codes "k,v\n") then Some (codes "v") else (if bytes_eq bytes (codes "k,w\n") then Some (codes "w") else None)) else None

-- a record of one field is refused
abbrev pub fault_in : List ℕ → Option Code
fault_in bytes = if bytes_eq bytes (codes "k\n") then Some code.NoField else None

-- tables, so many streams open at once, and at most so many frames
abbrev pub opener : List (List ℕ) → ℕ → Option ℕ → Opener
opener [] max_open most = record { tables = []; groups = []; list = None; fault_of = fault_in; value_of = value_in; max_open = max_open; most = most }
opener (t ∷ ts) max_open most = record (opener ts max_open most) { tables = to_read t ∷ (opener ts max_open most).tables }

-- a stream of one file
abbrev pub file_stream : List ℕ → Stream
file_stream path = record { places = to_read path ∷ []; scopes = 0; until = None }

-- no list is read
abbrev pub no_listing : DeviceTold → Outcomes
no_listing d ys e = ⊥

-- one file through pipes
abbrev pub piped_work : List ℕ → List Pipe → Work
piped_work path pipes = record {
  opener = Some (opener [] 4 None);
  streams = file_stream path ∷ [];
  runs = λ k v w. InFile (w 0) (ThroughPipes (Reads (w 0)) pipes);
  ideal_runs = λ k v w. ThroughWhole (ReadsWhole (w 0)) pipes;
  listing = no_listing;
  ideal_listing = no_listing;
}

-- two files as they are, of which the second stands behind the first
abbrev pub two_files : Opener → Option ℕ → Work
two_files o until = record {
  opener = Some o;
  streams = file_stream (codes "a") ∷ record (file_stream (codes "b")) { until = until } ∷ [];
  runs = λ k v w. InFile (w k) (Reads (w k));
  ideal_runs = λ k v w. ReadsWhole (w k);
  listing = no_listing;
  ideal_listing = no_listing;
}
