-- What holds of the pipe of lines.
use Rattle.std.proofs.Common.{◌≡◌, List, [], Some, None, refl, inl}
use Rattle.chunk_core.specs.Elements.{Element}
use Rattle.chunk_core.specs.Elements.LoadKind.{Bytes, Lines}
use Rattle.chunk_core.specs.declared.code.Code.TheVariants as code
use Rattle.pull_nodes.specs.Laws.{IsNoDeviceFault}
use Rattle.pull_nodes.specs.Lines.{has_long, without_pairs, ended_lines, open_line, lines_part, lines_rule}
use Rattle.pull_nodes.specs.Plain.{bytes_of}
use Rattle.pull_nodes.proofs.Lawful.{IsLawful, own_none, own_long, own_if}
use Rattle.pull_nodes.proofs.LineLaws.{lines_steady}
use Rattle.pull_nodes.proofs.Steady.{over_bytes}

none_of_nothing : (lines_part []).list ≡ []
unfolding without_pairs ended_lines open_line
none_of_nothing = refl

own_fault : (xs : List Element) → IsNoDeviceFault (lines_part (bytes_of xs)).fault
own_fault xs = own_if (has_long (without_pairs 0 (bytes_of xs))) (Some code.LongLine) None own_long own_none

pub lines_lawful : IsLawful lines_rule
lines_lawful = record {
  steady = over_bytes _ _ lines_steady;
  own = λ xs. (own_fault xs, own_fault xs);
  empty = none_of_nothing;
  behind_nothing = inl (Bytes, Lines, refl, refl);
}
