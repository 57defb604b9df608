-- What a runner ends as, where what it is run over is lent.
use Rattle.std.specs.Borrow.{Lends, MutBor, Fml, RattleType}
use Rattle.pull_turns.specs.declared.runner.Runner.{Runner}
use Rattle.pull_turns.specs.contracts.runner.Runner.{the_row}

-- over something else
abbrev pub run_over : {O F : Type 0} → Runner O F → O → Runner O F
run_over r o = record r { outside = o }

-- once the borrow o ends, it is run over the last that was written through o
abbrev pub lends_outside : (O F : RattleType) → MutBor (Runner O.Denot F.Denot) → MutBor O.Denot → Fml
lends_outside O F r o = Lends (the_row O F) O r o (run_over r.now)
