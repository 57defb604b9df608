use Rattle.std.proofs.Common.{refl}
use Rattle.std.specs.Char.{encode_utf8}
use Rattle.std.specs.Str.{is_utf8, chars}
use Rattle.std.specs.Str.Lossy.{utf8_valid_len}
use Rattle.pull_nodes.specs.Lines.{ended_lines, without_pairs}
use Rattle.plan_work.proofs.laws.worked.Goals as goal

pub returns : goal.returns
unfolding without_pairs ended_lines utf8_valid_len is_utf8 chars encode_utf8
returns c = record {
  group_rows = refl;
  group_owners = refl;
  group_scopes = refl;
  group_gives = refl;
  top_sees = refl;
  group_sees = refl;
  lent_first = refl;
  lent_own = refl;
  not_lent = refl;
  list_rows = refl;
  list_owners = refl;
  list_names = refl;
  list_outer = refl;
  list_scopes = refl;
  list_gives = refl;
  good_line = refl;
  empty_line = refl;
  written_line = refl;
  ended = refl;
}
