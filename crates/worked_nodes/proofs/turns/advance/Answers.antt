use Rattle.std.proofs.Common.{arith}
use Rattle.pull_turns.proofs.Led.{led_quiet}
use Rattle.worked_nodes.proofs.Turning.{gave_behind}
use Rattle.worked_nodes.proofs.turns.advance.Goals as goal

pub returns-in-Chunk : goal.returns-in-Chunk
returns-in-Chunk g c =
    let seen = g.O.Outside.seen in let old = c.loop-turn.runner in let new = c.turn.new.self in let turn = c.in_ok-turn in
    record {
      gave = gave_behind _ (seen c.args.runner.now.outside).told (seen old.outside) (seen new.outside) _ c.args.runner.now.rest old.rest new.rest c.loop-turn.invariant.led turn.turn turn.ensures.turned;
      how = turn.ensures.how;
      fits = turn.ensures.fits;
    }

pub loop-turn-preserved : goal.loop-turn-preserved
loop-turn-preserved g c =
    let i = c.loop-turn.invariant in let turn = c.in_ok-turn.ensures in
    let k = rw c.in-Quiet.is at turn.turned in
    record {
      fits = turn.fits;
      how = rw c.in-Quiet.is at turn.how;
      sound = turn.sound;
      can = k.can tt;
      chunk = omega (arith, i.chunk, turn.chunk);
      led = led_quiet _ _ _ _ _ _ _ _ _ i.led k;
    }
