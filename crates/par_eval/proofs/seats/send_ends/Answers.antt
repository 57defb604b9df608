use Rattle.std.proofs.Common.{arith}
use Rattle.par_eval.proofs.SeatLists.{ends_at, ends_else, ends_open, one_more_end}
use Rattle.par_eval.proofs.seats.send_ends.Goals as goal

pub post-requires-clause-at : goal.post-requires-clause-at
post-requires-clause-at g c = ends_at c.args.lanes.now c.args.from c.loop-number.number c.args.seats.now c.loop-number.seats c.loop-number.invariant.0 c.requires.at

pub post-requires-clause-open : goal.post-requires-clause-open
post-requires-clause-open g c = λ lane at. ends_open c.args.from c.loop-number.number c.args.seats.now c.loop-number.seats c.loop-number.invariant.0 c.loop-number.number lane at (c.requires.open c.loop-number.number)

pub post-requires-clause-may : goal.post-requires-clause-may
post-requires-clause-may g c = λ lane at. c.requires.may c.loop-number.number lane (ends_else c.args.from c.loop-number.number c.args.seats.now c.loop-number.seats c.loop-number.invariant.0 c.loop-number.number lane at (omega arith))

pub returns-in-Err-clause-full : goal.returns-in-Err-clause-full
returns-in-Err-clause-full g c =
    let f = c.in-Err.ensures.full in
    (f.0, ends_else c.args.from c.loop-number.number c.args.seats.now c.loop-number.seats c.loop-number.invariant.0 c.loop-number.number f.0 f.1 (omega arith), f.2)

pub loop-number-preserved : goal.loop-number-preserved
loop-number-preserved g c = (one_more_end c.args.from c.loop-number.number c.args.seats.now c.loop-number.seats c.post.new.seats c.loop-number.invariant.1 c.loop-number.invariant.0 c.in-Ok.ensures.sent, let h = c.loop-number.invariant.1 in omega arith)
