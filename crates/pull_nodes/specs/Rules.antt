-- Which rule a pipe has over the tables: the one row that a pipe has here.
use Rattle.pull_nodes.specs.Changes.{changes_rule}
use Rattle.pull_nodes.specs.ChunkN.{chunk_rule}
use Rattle.pull_nodes.specs.Count.{count_rule}
use Rattle.pull_nodes.specs.Csv.{csv_rule}
use Rattle.pull_nodes.specs.Drop.{drop_rule}
use Rattle.pull_nodes.specs.Field.{field_rule}
use Rattle.pull_nodes.specs.Filter.{filter_rule}
use Rattle.pull_nodes.specs.Hex.{hex_rule}
use Rattle.pull_nodes.specs.Intersperse.{intersperse_rule}
use Rattle.pull_nodes.specs.Lines.{lines_rule}
use Rattle.pull_nodes.specs.Lookup.{lookup_rule}
use Rattle.pull_nodes.specs.Number.{number_rule}
use Rattle.pull_nodes.specs.PipeRule.{PipeRule}
use Rattle.chunk_core.specs.Tables.{Values}
use Rattle.pull_nodes.specs.Upper.{upper_rule}
use Rattle.pull_nodes.specs.Utf8.{utf8_rule, lossy_rule}
use Rattle.pull_nodes.specs.declared.pipe.Pipe.{Pipe}
use Rattle.pull_nodes.specs.declared.pipe.Pipe.TheVariants as pipe

abbrev pub rule_of : Values → Pipe → PipeRule
rule_of v pipe.Utf8 = utf8_rule
rule_of v pipe.Lossy = lossy_rule
rule_of v pipe.Lines = lines_rule
rule_of v pipe.Hex = hex_rule
rule_of v pipe.Upper = upper_rule
rule_of v pipe.Csv = csv_rule
rule_of v (pipe.Field i) = field_rule i
rule_of v (pipe.Lookup t i) = lookup_rule (v t) i
rule_of v (pipe.Drop n) = drop_rule n
rule_of v (pipe.Filter text) = filter_rule text
rule_of v pipe.Changes = changes_rule
rule_of v pipe.Number = number_rule
rule_of v pipe.Count = count_rule
rule_of v (pipe.Intersperse line) = intersperse_rule line
rule_of v (pipe.ChunkN n) = chunk_rule n
