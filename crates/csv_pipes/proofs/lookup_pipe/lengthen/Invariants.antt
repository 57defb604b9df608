use Rattle.std.proofs.Common.{◌≡◌, map, length, take, true}
use Rattle.std.specs.FinMap.{get}
use Rattle.chunk_core.specs.Elements.{Row}
use Rattle.pull_nodes.specs.Field.{each_made}
use Rattle.pull_nodes.specs.Lookup.{looked_up}
use Rattle.csv_pipes.specs.Made.{made_of}
use Rattle.csv_pipes.proofs.lookup_pipe.lengthen.Given as goal

abbrev pub invariant-loop-row : goal.invariant-loop-row
invariant-loop-row l = each_made (looked_up (get l.table) l.field) (map Row (take (length l.yielded) l.fn.rows.items)) ≡ made_of (map Row l.given.items) true
