-- Each computes.
use Rattle.std.proofs.Common.{refl}
use Rattle.std.specs.Char.{encode_utf8}
use Rattle.std.specs.Fmt.{digits}
use Rattle.std.specs.Str.{is_utf8, chars}
use Rattle.std.specs.Str.Lossy.{utf8_valid_len, utf8_error_len}
use Rattle.csv.specs.Machine.{next_record}
use Rattle.csv.specs.Reading.{records_from, strip_bom}
use Rattle.pull_nodes.specs.Lines.{ended_lines, open_line, without_pairs}
use Rattle.eval_rules.proofs.laws.worked_answers.Goals as goal

pub returns : goal.returns
unfolding without_pairs ended_lines open_line digits utf8_valid_len is_utf8 chars encode_utf8 utf8_error_len records_from strip_bom next_record
returns c = record {
  groups = refl;
  no_groups = refl;
  numbers = refl;
  empty = refl;
  fields = refl;
  malformed = refl;
  before_a_fault = refl;
  nothing = refl;
}
