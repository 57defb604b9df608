use Rattle.pull_turns.proofs.Writes.{one_more}
use Rattle.pull_turns.proofs.writing.write_all.Goals as goal

pub loop-at-preserved : goal.loop-at-preserved
loop-at-preserved g c =
    let i = c.loop-at.invariant in
    let e = c.in_ok-at.ensures in
    let m = one_more (g.O.Outside.seen c.args.outside.now) (g.O.Outside.seen c.loop-at.outside) (g.O.Outside.seen c.write.new.self) c.args.place c.loop-at.at c.args.bytes.now i.within i.wrote c.in_ok-at.field-0 e.ok in
    record { within = m.0; wrote = m.1; fits = e.fits; since = g.O.Outside.then _ _ _ _ _ _ i.since e.since }
