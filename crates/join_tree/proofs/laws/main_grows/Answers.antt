use Rattle.join_tree.proofs.Growing.{main_cancels, main_closes, main_closes_child, main_leases, main_reads, main_starts}
use Rattle.join_tree.proofs.Retold.{main_tells_out}
use Rattle.join_tree.proofs.Passing.{main_joins, main_splits}
use Rattle.join_tree.proofs.laws.main_grows.Goals as goal

pub returns : goal.returns
returns g c = record {
  starts = λ width n. main_starts {width = width} {n = n};
  reads = λ width n. main_reads {width = width} {n = n};
  leases = λ width n. main_leases {width = width} {n = n};
  tells_out = λ width n. main_tells_out {width = width} {n = n};
  closes = λ width n. main_closes {width = width} {n = n};
  closes_child = λ width n. main_closes_child {width = width} {n = n};
  cancels = λ width n. main_cancels {width = width} {n = n};
  splits = λ width n. main_splits {width = width} {n = n};
  joins = λ width n. main_joins {width = width} {n = n};
}
