use Rattle.std.proofs.Common.{◌≡◌, ◌<◌, false, None, []}
use Rattle.pull_turns.specs.Led.{Led}
use Rattle.pull_turns.specs.Piping.{standing}
use Rattle.pull_turns.specs.Rest.{CanStep}
use Rattle.worked_nodes.proofs.turns.advance.Given as goal

abbrev pub invariant-loop-turn : goal.invariant-loop-turn
invariant-loop-turn g l = record {
  fits : g.O.Outside.fits l.runner.outside l.desk;
  how : l.runner.how ≡ None;
  sound : l.runner.wanting ≡ false;
  can : CanStep (standing g.F.Feed.stands g.F.Feed.comes (g.F.PipeState.values l.fn.tables)) (g.O.Outside.seen l.runner.outside) 0 l.runner.rest;
  chunk : 0 < l.runner.chunk;
  led : Led (standing g.F.Feed.stands g.F.Feed.comes (g.F.PipeState.values l.fn.tables)) (g.O.Outside.seen l.fn.runner.outside).told (g.O.Outside.seen l.runner.outside).told l.fn.runner.rest l.runner.rest [];
}
