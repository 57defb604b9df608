-- What the state of a pipe of comma-separated values stands for.
use Rattle.std.specs.Prelude.{◌≡◌, ℕ, ◌+◌, ◌≤◌, Bool, false, List, [], length, map, Option, None, if◌then◌else◌}
use Rattle.chunk_core.specs.Elements.{Element, Row, LoadKind}
use Rattle.chunk_core.specs.Elements.LoadKind.{Rows}
use Rattle.chunk_core.specs.Feed.{Meaning}
use Rattle.chunk_core.specs.declared.code.Code.{Code}
use Rattle.chunk_core.specs.declared.code.Code.TheVariants as code
use Rattle.pull_nodes.specs.Csv.{is_too_large, most_gathered, uneven_fault}
use Rattle.pull_nodes.specs.PipeRule.{only_fault, without_fault}
use Rattle.pull_nodes.specs.Pipes.{IsMeaningOf}
use Rattle.pull_nodes.specs.Plain.{bytes_of}
use Rattle.pull_nodes.specs.declared.pipe.Pipe.TheVariants as pipe
use Rattle.csv_pipes.specs.declared.csv_pipe.CsvPipe.{CsvPipe}
use Rattle.csv_pipes.specs.declared.csv_pipe.Stage.{Stage}
use Rattle.csv_pipes.specs.declared.csv_pipe.Stage.TheVariants as stage

-- the fault of what is too large, or may go on
abbrev pub fault_where : Bool → Option Code
fault_where large = (if large then only_fault code.TooLarge else without_fault []).fault

-- these bytes were gathered, and the input may go on
abbrev pub HasGathered : Stage → List ℕ → Type 0
HasGathered (stage.Gathering text) xs = text.items ≡ xs
HasGathered (stage.Reading left) xs = ⊥
HasGathered stage.Ended xs = ⊥

-- the state stands for this input of the pipe: it has gathered it
abbrev pub StandsFor : CsvPipe → Meaning → List Element → Type 0
StandsFor q m xs = IsMeaningOf pipe.Csv m × HasGathered q.stage (bytes_of xs) × (is_too_large (bytes_of xs) ≡ false)

-- the rows that are still to come once the input has ended
abbrev pub rows_to_come : Stage → List (List (List ℕ))
rows_to_come (stage.Gathering text) = []
rows_to_come (stage.Reading left) = left.0
rows_to_come stage.Ended = []

-- the fault behind them
abbrev pub fault_to_come : Stage → Option Code
fault_to_come (stage.Gathering text) = None
fault_to_come (stage.Reading left) = uneven_fault left.1
fault_to_come stage.Ended = None

-- the input has ended
abbrev pub HasEnded : Stage → Type 0
HasEnded (stage.Gathering text) = ⊥
HasEnded (stage.Reading left) = Unit {0}
HasEnded stage.Ended = Unit {0}

-- these rows are still to come, and then the fault or none
pub record Comes (q : CsvPipe) (given : LoadKind) (ys : List Element) (c : Option Code) : Type 0 where
  pub ended : HasEnded q.stage
  pub kind : given ≡ Rows
  pub rows : ys ≡ map Row (rows_to_come q.stage)
  pub fault : c ≡ fault_to_come q.stage
  pub few : length ys ≤ most_gathered + 1

-- as many rows as that
abbrev pub due : CsvPipe → ℕ
due q = length (rows_to_come q.stage)
