use Rattle.csv_bench.specs.States.{MayGive, MayLookUp}
use Rattle.csv_bench.proofs.stream.copy.Given as goal

abbrev pub invariant-batches : goal.invariant-batches
invariant-batches g l = MayGive l.csv × MayLookUp l.lookup
