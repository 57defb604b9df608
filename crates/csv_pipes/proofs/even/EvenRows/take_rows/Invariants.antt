use Rattle.std.proofs.Common.{◌≡◌, ◌++◌, length}
use Rattle.csv_pipes.proofs.even.EvenRows.take_rows.Given as goal

abbrev pub invariant-batch : goal.invariant-batch
invariant-batch g l = record {
  rows : l.fn.self ≡ (l.rows.items ++ l.self.0, l.self.1);
  len : length l.rows.items ≡ l.counter;
}
