use Rattle.run_laws.proofs.Tables.{unread_table_right, refused_table_right, missing_table_right, unopened_file_right, unread_file_right}
use Rattle.run_laws.proofs.worked.failed_lookups.Goals as goal

pub returns : goal.returns
returns c = record {
  is_unread_table = unread_table_right;
  is_refused_table = refused_table_right;
  is_missing_table = missing_table_right;
  is_unopened_file = unopened_file_right;
  is_unread_file = unread_file_right;
}
