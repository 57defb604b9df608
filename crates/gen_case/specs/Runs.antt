-- The run of a case over its files.
use Rattle.std.specs.Prelude.{◌≡◌, ℕ, ◌+◌, ◌<◌, ◌≤◌, List, [], Some}
use Rattle.chunk_core.specs.Elements.{Element}
use Rattle.chunk_core.specs.Outcomes.{End, Done}
use Rattle.chunk_core.specs.Tables.{Values}
use Rattle.csv_pipes.specs.Dictionaries.{table_value}
use Rattle.device_port.specs.Depot.{DepotTold, content_at}
use Rattle.device_port.specs.Device.{DeviceTold}
use Rattle.device_port.specs.Files.{bytes_at}
use Rattle.pipeline_desc.specs.Limits.{most_streams}
use Rattle.pipeline_desc.specs.Nodes.{IsNodeOf}
use Rattle.pull_nodes.specs.Runs.{IsFault, IsIdealRun, IsRun}
use Rattle.pull_nodes.specs.declared.node.Node.{Node}
use Rattle.gen_case.specs.Case.{files_of, stream_path, stream_text, table_path, table_text}
use Rattle.gen_case.specs.Plan.{plan_of_case}
use Rattle.gen_case.specs.Rendering.{looked_up_rows}
use Rattle.gen_case.specs.declared.case.Case.{Case}

-- the depot that has the files of a case, before a device was made
abbrev pub depot_of : Case → DepotTold
depot_of c = record { files = Some (bytes_at (files_of c) []); made = []; retired = [] }

-- the files are found by their paths
pub record FindsFiles (c : Case) : Type 0 where
  pub table : content_at (depot_of c).files table_path ≡ Some table_text
  pub streams : (k : ℕ) → k < c.streams → content_at (depot_of c).files (stream_path k) ≡ Some (stream_text c k)

abbrev pub FilesAreFound : Type 0
FilesAreFound = (c : Case) → c.streams ≤ most_streams → FindsFiles c

-- the values are those of the table, and the row of stream k has a device for its file
pub record IsOverFiles (c : Case) (k : ℕ) (v : Values) (w : ℕ → DeviceTold) : Type 0 where
  pub values : (key : List ℕ) → v 0 key ≡ table_value table_text key
  pub content : (w (1 + k)).content ≡ Some (stream_text c k)

-- where nothing is left and no device fails, the node gives its rows and is done
abbrev pub NodesRunIdeal : Type 0
NodesRunIdeal =
    (c : Case) (k : ℕ) (v : Values) (w : ℕ → DeviceTold) (n : Node) (ys : List Element) (e : End) → c.lines ≤ 100000 → IsNodeOf (plan_of_case c) k n → IsOverFiles c k v w
    → IsIdealRun v w n ys e → (e ≡ Done) × (ys ≡ looked_up_rows c k)

-- where its device didn't fail, no run of the node ends with a fault
abbrev pub NodesNeverFail : Type 0
NodesNeverFail =
    (c : Case) (k : ℕ) (v : Values) (w : ℕ → DeviceTold) (n : Node) (ys : List Element) (e : End) → c.lines ≤ 100000 → IsNodeOf (plan_of_case c) k n → IsOverFiles c k v w
    → (w (1 + k)).open_faults ≡ 0 → (w (1 + k)).read_faults ≡ 0 → IsRun v w n ys e → IsFault e → ⊥
