use Rattle.std.proofs.Common.{refl, Result, Ok, Err, OnErr}
use Rattle.pull_turns.proofs.Led.{cut_unwritten, stays_open, turns_end}
use Rattle.pull_turns.proofs.runner.Runner.turn.Goals as goal

pub leave_at_end-requires-clause-scope : goal.leave_at_end-requires-clause-scope
leave_at_end-requires-clause-scope g c = stays_open _ _ _ _ c.requires.can.nested c.requires.can.opened c.requires.can.ready c.in_ok-turn.ensures.stepped.turned.moved

pub returns-clause-since : goal.returns-clause-since
returns-clause-since g c = g.O.Outside.then _ _ _ _ _ _ c.in_ok-turn.ensures.since c.leave_at_end.ensures.since

pub returns-clause-turned : goal.returns-clause-turned
returns-clause-turned g c = turns_end _ g.O.Outside.seen _ _ _ _ _ _ c.requires.can (g.O.Outside.held _ _ c.leave_at_end.ensures.fits) (g.O.Outside.nested _ _ c.leave_at_end.ensures.fits) c.in_ok-turn.turn c.leave_at_end.ensures.ends (c.in_ok-turn.ensures.stepped.grouped refl) c.in_ok-turn.ensures.stepped.scoped c.in_ok-turn.ensures.stepped.failures c.in_ok-turn.ensures.stepped.turned

on_err : {T E P : Type 0} (r : Result T E) → P → OnErr r P
on_err (Ok x) p = tt
on_err (Err e) p = p

pub returns-in_err-turn-clause-cut : goal.returns-in_err-turn-clause-cut
returns-in_err-turn-clause-cut g c =
    on_err c.from_residual.result (cut_unwritten _ (g.O.Outside.seen c.args.self.now.outside) (g.O.Outside.seen c.step.new.outside) 0 c.args.self.now.rest c.requires.can c.in_err-turn.ensures.broken.unwritten)

pub returns-clause-work : goal.returns-clause-work
returns-clause-work g c = c.in_ok-turn.ensures.stepped.work

pub returns-clause-sized : goal.returns-clause-sized
returns-clause-sized g c = c.in_ok-turn.ensures.stepped.sized

pub returns-in_err-turn-clause-spent : goal.returns-in_err-turn-clause-spent
returns-in_err-turn-clause-spent g c = on_err c.from_residual.result c.in_err-turn.ensures.broken.spent

pub returns-in_err-turn-clause-stopped : goal.returns-in_err-turn-clause-stopped
returns-in_err-turn-clause-stopped g c = on_err c.from_residual.result c.in_err-turn.ensures.broken.stopped
