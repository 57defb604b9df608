-- What holds of every pipe: the one row that a pipe has here.
use Rattle.std.proofs.Common.{sym, subst}
use Rattle.chunk_core.specs.Feed.{Meaning}
use Rattle.pull_nodes.specs.Laws.{IsSteady}
use Rattle.pull_nodes.specs.Pipes.{meaning_over, IsMeaningOver}
use Rattle.pull_nodes.specs.Rules.{rule_of}
use Rattle.chunk_core.specs.Tables.{Values}
use Rattle.pull_nodes.specs.declared.pipe.Pipe.{Pipe}
use Rattle.pull_nodes.specs.declared.pipe.Pipe.TheVariants as pipe
use Rattle.pull_nodes.proofs.Changes.{changes_lawful}
use Rattle.pull_nodes.proofs.ChunkN.{chunk_lawful}
use Rattle.pull_nodes.proofs.Count.{count_lawful}
use Rattle.pull_nodes.proofs.Csv.{csv_lawful}
use Rattle.pull_nodes.proofs.Drop.{drop_lawful}
use Rattle.pull_nodes.proofs.Field.{field_lawful}
use Rattle.pull_nodes.proofs.Filter.{filter_lawful}
use Rattle.pull_nodes.proofs.Hex.{hex_lawful}
use Rattle.pull_nodes.proofs.Intersperse.{intersperse_lawful}
use Rattle.pull_nodes.proofs.Lawful.{IsLawful}
use Rattle.pull_nodes.proofs.Lines.{lines_lawful}
use Rattle.pull_nodes.proofs.Lookup.{lookup_lawful}
use Rattle.pull_nodes.proofs.Meanings.{is_meaning_over}
use Rattle.pull_nodes.proofs.Number.{number_lawful}
use Rattle.pull_nodes.proofs.Steady.{steady_by}
use Rattle.pull_nodes.proofs.Upper.{upper_lawful}
use Rattle.pull_nodes.proofs.Utf8.{utf8_lawful, lossy_lawful}

pub lawful_pipe : (t : Values) (p : Pipe) → IsLawful (rule_of t p)
lawful_pipe t pipe.Utf8 = utf8_lawful
lawful_pipe t pipe.Lossy = lossy_lawful
lawful_pipe t pipe.Lines = lines_lawful
lawful_pipe t pipe.Hex = hex_lawful
lawful_pipe t pipe.Upper = upper_lawful
lawful_pipe t pipe.Csv = csv_lawful
lawful_pipe t (pipe.Field i) = field_lawful i
lawful_pipe t (pipe.Lookup n i) = lookup_lawful (t n) i
lawful_pipe t (pipe.Drop n) = drop_lawful n
lawful_pipe t (pipe.Filter text) = filter_lawful text
lawful_pipe t pipe.Changes = changes_lawful
lawful_pipe t pipe.Number = number_lawful
lawful_pipe t pipe.Count = count_lawful
lawful_pipe t (pipe.Intersperse line) = intersperse_lawful line
lawful_pipe t (pipe.ChunkN n) = chunk_lawful n

pub steady : (t : Values) (p : Pipe) (m : Meaning) → IsMeaningOver t p m → IsSteady m
steady t p m h = subst IsSteady (sym (is_meaning_over t p m h).0) (steady_by (meaning_over t p m.takes m.gives) (lawful_pipe t p).steady)
