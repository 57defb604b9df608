use Rattle.run_laws.proofs.Tables.{lookup_right, unclean_table_right, unclean_file_right}
use Rattle.run_laws.proofs.worked.lookups.Goals as goal

pub returns : goal.returns
returns c = record {
  is_lookup = lookup_right;
  is_unclean_table = unclean_table_right;
  is_unclean_file = unclean_file_right;
}
