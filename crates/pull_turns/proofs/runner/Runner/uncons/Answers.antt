use Rattle.std.proofs.Common.{arith, refl, ◌∙◌, [], Result, Ok, Err, OnErr}
use Rattle.pull_turns.specs.declared.turn.Turn.TheVariants as turn
use Rattle.pull_turns.proofs.Led.{goes_on_more, led_chunk, led_cut, led_quiet, led_done, led_fault, led_tells, spends_then, stays_open, tells_on, moved_tells}
use Rattle.pull_turns.proofs.Sized.{sized_then}
use Rattle.pull_turns.proofs.runner.Runner.uncons.Goals as goal

on_err : {T E P : Type 0} (r : Result T E) → P → OnErr r P
on_err (Ok x) p = tt
on_err (Err e) p = p

pub returns-in_err-load-clause-stopped : goal.returns-in_err-load-clause-stopped
returns-in_err-load-clause-stopped g c =
    let i = c.loop-turn.invariant in
    let m = c.in_err-load.ensures.stopped in
    on_err c.from_residual.result (stays_open _ _ _ _ i.can.nested i.can.opened i.can.ready m, tells_on _ _ _ _ _ i.led.live i.led.tells (moved_tells _ _ _ m))

pub returns-in-Chunk-clause-first : goal.returns-in-Chunk-clause-first
returns-in-Chunk-clause-first g c =
    let i = c.loop-turn.invariant in
    let k = rw c.in-Chunk.is at c.in_ok-load.ensures.turned in
    (k.gave.0, rw c.in-Chunk.is at c.in_ok-load.ensures.how, k.can tt, led_chunk _ _ _ _ _ _ _ _ _ i.led c.in-Chunk.load k, λ j h. (k.kinds j (i.led.kinds j h)).0, (c.loop-turn._turn, c.loop-turn-test.true, _, _, i.went, rw i.chunk at k), λ j h. (k.grouped.most j (i.led.grouped j h)).1)

pub returns-in-Done-clause-first : goal.returns-in-Done-clause-first
returns-in-Done-clause-first g c =
    let i = c.loop-turn.invariant in
    let k = rw c.in-Done.is at c.in_ok-load.ensures.turned in
    (rw c.in-Done.is at c.in_ok-load.ensures.how, k.shut (λ j. j), k.closed, led_tells _ _ _ _ _ _ _ _ _ i.led _ k, λ w o. led_done _ _ _ _ _ _ _ _ _ i.led k w o, (turn.Done, refl, (c.loop-turn._turn, c.loop-turn-test.true, _, _, i.went, rw i.chunk at k)))

pub returns-in-Fault-clause-first : goal.returns-in-Fault-clause-first
returns-in-Fault-clause-first g c =
    let i = c.loop-turn.invariant in
    let k = rw c.in-Fault.is at c.in_ok-load.ensures.turned in
    (rw c.in-Fault.is at c.in_ok-load.ensures.how, k.shut (λ j. j), k.closed, led_tells _ _ _ _ _ _ _ _ _ i.led _ k, λ w o. led_fault _ _ _ _ _ _ _ _ _ i.led c.in-Fault.code k w o, (turn.Fault c.in-Fault.code, refl, (c.loop-turn._turn, c.loop-turn-test.true, _, _, i.went, rw i.chunk at k)))

pub returns-in_err-load-clause-since : goal.returns-in_err-load-clause-since
returns-in_err-load-clause-since g c = g.O.Outside.then _ _ _ _ _ _ c.loop-turn.invariant.since c.in_err-load.ensures.since

pub loop-turn-preserved : goal.loop-turn-preserved
loop-turn-preserved g c =
    let i = c.loop-turn.invariant in
    let k = rw c.in-Quiet.is at c.in_ok-load.ensures.turned in
    record {
      fits = c.in_ok-load.ensures.fits;
      since = g.O.Outside.then _ _ _ _ _ _ i.since c.in_ok-load.ensures.since;
      how = rw c.in-Quiet.is at c.in_ok-load.ensures.how;
      sound = c.in_ok-load.ensures.sound;
      can = k.can tt;
      chunk = c.in_ok-load.ensures.chunk ∙ i.chunk;
      spends = spends_then _ _ _ _ _ _ i.spends k.spends;
      went = goes_on_more _ _ _ _ _ _ _ _ _ _ _ _ _ i.went (rw i.chunk at k) tt refl;
      sized = λ f. sized_then _ _ _ _ _ (i.sized f) ((rw (c.in-Quiet.is, i.chunk) at c.in_ok-load.ensures.sized) (i.sized f).plain);
      led = led_quiet _ _ _ _ _ _ _ _ _ i.led k;
    }

pub returns-in-Chunk-clause-sized : goal.returns-in-Chunk-clause-sized
returns-in-Chunk-clause-sized g c f = let i = c.loop-turn.invariant in sized_then _ _ _ _ _ (i.sized f) ((rw (c.in-Chunk.is, i.chunk) at c.in_ok-load.ensures.sized) (i.sized f).plain)

pub returns-in-Done-clause-sized : goal.returns-in-Done-clause-sized
returns-in-Done-clause-sized g c f = let i = c.loop-turn.invariant in sized_then _ _ _ _ _ (i.sized f) ((rw (c.in-Done.is, i.chunk) at c.in_ok-load.ensures.sized) (i.sized f).plain)

pub returns-in-Fault-clause-sized : goal.returns-in-Fault-clause-sized
returns-in-Fault-clause-sized g c f = let i = c.loop-turn.invariant in sized_then _ _ _ _ _ (i.sized f) ((rw (c.in-Fault.is, i.chunk) at c.in_ok-load.ensures.sized) (i.sized f).plain)

pub returns-clause-sized : goal.returns-clause-sized
returns-clause-sized g c = c.loop-turn.invariant.sized

pub returns-in-Done-clause-since : goal.returns-in-Done-clause-since
returns-in-Done-clause-since g c = g.O.Outside.then _ _ _ _ _ _ c.loop-turn.invariant.since c.in_ok-load.ensures.since

pub returns-in-Fault-clause-since : goal.returns-in-Fault-clause-since
returns-in-Fault-clause-since g c = g.O.Outside.then _ _ _ _ _ _ c.loop-turn.invariant.since c.in_ok-load.ensures.since

pub returns-in_err-load-clause-cut : goal.returns-in_err-load-clause-cut
returns-in_err-load-clause-cut g c =
    let i = c.loop-turn.invariant in
    let m = c.in_err-load.ensures in
    on_err c.from_residual.result (led_cut _ (g.O.Outside.seen c.args.self.now.outside) (g.O.Outside.seen c.loop-turn.self.outside) (g.O.Outside.seen c.turn.new.self.outside) _ _ [] i.led (moved_tells _ _ _ m.stopped) m.cut)
