-- How many rows are still to come.
use Rattle.std.proofs.Common.{◌≡◌, ◌<◌, ◌≤◌, ◌^◌, List, length, Option, ap, ◌∙◌, arith}
use Rattle.std.proofs.lemmas.List.{length-map}
use Rattle.chunk_core.specs.Elements.{Element, Row, LoadKind}
use Rattle.chunk_core.specs.declared.code.Code.{Code}
use Rattle.csv_pipes.specs.CsvState.{Comes, due, rows_to_come}
use Rattle.csv_pipes.specs.declared.csv_pipe.CsvPipe.{CsvPipe}

-- as many as are due, which is less than 2^64
pub csv_owes : (q : CsvPipe) (k : LoadKind) (ys : List Element) (c : Option Code) → Comes q k ys c → (length ys ≡ due q) × (due q < 2 ^ 64)
csv_owes q k ys c h =
    let is : length ys ≡ due q = ap length h.rows ∙ length-map (rows_to_come q.stage) Row in
    let few : length ys ≤ 16777217 = h.few in
    (is, omega arith)
