use Rattle.run_laws.proofs.Others.{two_tables_right, nothing_described_right, silent_right, stopped_right, handled_right, copied_right, uncopied_right}
use Rattle.run_laws.proofs.worked.other_runs.Goals as goal

pub returns : goal.returns
returns c = record {
  is_two_tables = two_tables_right;
  is_nothing_described = nothing_described_right;
  is_silent = silent_right;
  is_stopped = stopped_right;
  is_handled = handled_right;
  is_copied = copied_right;
  is_uncopied = uncopied_right;
}
