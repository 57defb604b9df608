-- Turn by turn to the end.
use Rattle.std.proofs.Common.{ap, sym, ◌∙◌}
use Rattle.std.specs.Option.{is_some}
use Rattle.tee_run.proofs.Reading.{some_how}
use Rattle.tee_run.proofs.read.read_all.Goals as goal

pub turns-init : goal.turns-init
turns-init g c = record { works = c.requires.works; goes = λ a ms start t. t }

pub returns-then-is_some-clause-read : goal.returns-then-is_some-clause-read
returns-then-is_some-clause-read g c = λ a ms start t. (c.turns.invariant.goes a ms start t, some_how _ (ap is_some (sym c.how.ensures) ∙ (sym c.is_some.ensures ∙ c.if-is_some.true)))

pub read_one-requires-clause-teeing : goal.read_one-requires-clause-teeing
read_one-requires-clause-teeing g c = let q = c.requires.teeing in (q.0, q.1, q.2, c.turns.invariant.goes q.0 q.1 q.2 q.3)

pub turns-preserved : goal.turns-preserved
turns-preserved g c = record { works = c.in-Ok.ensures.works; goes = λ a ms start t. c.in-Ok.ensures.gives a ms start (c.turns.invariant.goes a ms start t) }

pub returns-in-Err-clause-read : goal.returns-in-Err-clause-read
returns-in-Err-clause-read g c = λ a ms start t. c.in-Err.ensures.gives a ms start (c.turns.invariant.goes a ms start t)
