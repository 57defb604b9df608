use Rattle.std.proofs.Common.{◌≡◌, false, None, []}
use Rattle.pull_turns.specs.Piping.{standing}
use Rattle.pull_turns.specs.Rest.{CanStep}
use Rattle.pull_turns.specs.Led.{GoesOnFor, Led}
use Rattle.pull_turns.specs.Turned.{Spends}
use Rattle.pull_turns.specs.Sizes.{HasNoPipe, Sized}
use Rattle.pull_turns.proofs.runner.Runner.uncons.Given as goal

abbrev pub invariant-loop-turn : goal.invariant-loop-turn
invariant-loop-turn g l = record {
  fits : g.O.Outside.fits l.self.outside l.desk;
  since : g.O.Outside.since l.fn.self.outside l.fn.desk l.self.outside l.desk;
  how : l.self.how ≡ None;
  sound : l.self.wanting ≡ false;
  can : CanStep (standing g.F.Feed.stands g.F.Feed.comes (g.F.PipeState.values l.fn.tables)) (g.O.Outside.seen l.self.outside) 0 l.self.rest;
  chunk : l.self.chunk ≡ l.fn.self.chunk;
  spends : Spends (g.O.Outside.seen l.fn.self.outside) (g.O.Outside.seen l.self.outside) l.fn.self.rest l.self.rest;
  went : GoesOnFor (standing g.F.Feed.stands g.F.Feed.comes (g.F.PipeState.values l.fn.tables)) g.O.Outside.seen l.fn.self.chunk l._turn l.fn.self.outside l.fn.self.rest l.self.outside l.self.rest [];
  sized : HasNoPipe l.fn.self.rest → Sized l.fn.self.chunk l.fn.self.rest l.self.rest [];
  led : Led (standing g.F.Feed.stands g.F.Feed.comes (g.F.PipeState.values l.fn.tables)) (g.O.Outside.seen l.fn.self.outside).told (g.O.Outside.seen l.self.outside).told l.fn.self.rest l.self.rest [];
}
