-- One more follows.
use Rattle.std.proofs.Common.{◌∙◌, arith}
use lib.ListN.{get_or}
use Rattle.chunk_core.specs.declared.code.How.TheVariants.{Done}
use Rattle.tee_run.proofs.Ends.{at_or, branch_next}
use Rattle.tee_run.proofs.told.with_branches.Goals as goal

pub push_reserved-requires : goal.push_reserved-requires
push_reserved-requires c = let i = c.loop-how.invariant in omega (arith, i.len, i.room, c.requires.room, c.loop-how-test.true)

pub loop-how-preserved : goal.loop-how-preserved
loop-how-preserved c =
    let i = c.loop-how.invariant in
    let p = c.push_reserved.ensures in
    record {
      number = omega (arith, i.number);
      items = branch_next c.args.ends.items c.loop-how.ends.items c.push_reserved.new.self.items c.args.branches.now c.loop-how.how-index c.loop-how.number (get_or c.args.branches.now c.loop-how.how-index Done) (at_or c.args.branches.now c.loop-how.how-index Done c.loop-how-test.true) i.number i.items p.items;
      len = omega (arith, p.len, i.len);
      room = p.capacity ∙ i.room;
    }
