-- What the state of a pipe that looks up stands for.
use Rattle.std.specs.Prelude.{◌≡◌, ℕ, List, None}
use Rattle.std.specs.Arc.{arc_value}
use Rattle.std.specs.FinMap.{get}
use Rattle.chunk_core.specs.Elements.{Element}
use Rattle.chunk_core.specs.Feed.{Meaning, IsSound}
use Rattle.chunk_core.specs.Tables.{Values}
use Rattle.pull_nodes.specs.Field.{each_made}
use Rattle.pull_nodes.specs.Lookup.{looked_up}
use Rattle.pull_nodes.specs.Pipes.{IsMeaningOver}
use Rattle.pull_nodes.proofs.Meanings.{is_meaning_over}
use Rattle.std.proofs.Common.{ap, ◌∙◌}
use Rattle.pull_nodes.specs.declared.pipe.Pipe.TheVariants as pipe
use Rattle.csv_pipes.specs.declared.lookup_pipe.LookupPipe.{LookupPipe}

-- it has the values of one of the tables, and stands for every input in which all rows have the field that is the key
pub record StandsFor (q : LookupPipe) (m : Meaning) (xs : List Element) : Type 0 where
  pub values : Values
  pub table : ℕ
  pub means : IsMeaningOver values (pipe.Lookup table q.field) m
  pub same : (key : List ℕ) → values table key ≡ get (arc_value q.table) key
  pub fine : (each_made (looked_up (values table) q.field) xs).fault ≡ None

-- no fault was given yet
pub sound : (q : LookupPipe) → IsSound (StandsFor q)
sound q m xs h = ap (λ (n : Meaning). (n.part xs).fault) (is_meaning_over h.values (pipe.Lookup h.table q.field) m h.means).0 ∙ h.fine
