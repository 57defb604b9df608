use Rattle.std.proofs.Common.{◌≡◌, ℕ, List, ◌++◌, length}
use Rattle.csv_pipes.specs.Refusals.{IsDraftOf}
use Rattle.csv_pipes.proofs.table.read_rows.Given as goal

abbrev pub invariant-records : goal.invariant-records
invariant-records l = (seen : List (List (List ℕ))) × (l.fn.rows ≡ (seen ++ l.rows.0, l.rows.1)) × IsDraftOf seen l.draft

abbrev pub decreases-records : goal.decreases-records
decreases-records l = length l.rows.0
