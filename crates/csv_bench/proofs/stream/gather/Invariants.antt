use Rattle.csv_bench.specs.States.{MayRead}
use Rattle.csv_bench.proofs.stream.gather.Given as goal

abbrev pub invariant-pieces : goal.invariant-pieces
invariant-pieces g l = MayRead l.csv
