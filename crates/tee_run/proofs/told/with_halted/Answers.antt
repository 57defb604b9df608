-- One more follows.
use Rattle.std.proofs.Common.{◌∙◌, arith}
use Rattle.tee_run.proofs.Ends.{halted_next}
use Rattle.tee_run.proofs.told.with_halted.Goals as goal

pub push_reserved-requires : goal.push_reserved-requires
push_reserved-requires c = let i = c.loop-number.invariant in omega (arith, i.len, i.room, c.requires.room, c.loop-number-test.true)

pub loop-number-preserved : goal.loop-number-preserved
loop-number-preserved c =
    let i = c.loop-number.invariant in
    let p = c.push_reserved.ensures in
    record {
      items = halted_next c.args.ends.items c.loop-number.ends.items c.push_reserved.new.self.items c.loop-number.number i.items p.items;
      len = omega (arith, p.len, i.len);
      room = p.capacity ∙ i.room;
    }
