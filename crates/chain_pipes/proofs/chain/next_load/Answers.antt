use Rattle.std.proofs.Common.{arith}
use Rattle.chain_pipes.proofs.Giving.{first_kind, skipped}
use Rattle.chain_pipes.proofs.chain.next_load.Goals as goal

pub returns-then-len-gt0-clause-kinds : goal.returns-then-len-gt0-clause-kinds
returns-then-len-gt0-clause-kinds c k are = first_kind k c.loop-load.loads.items c.pop_front.new.self.items c.in-Some.load c.pop_front.result c.pop_front.ensures.items c.in-Some.is (c.loop-load.invariant.kinds k are)

pub loop-load-preserved-else-len-gt0 : goal.loop-load-preserved-else-len-gt0
loop-load-preserved-else-len-gt0 c = record {
  same = skipped c.args.loads.now.items c.loop-load.loads.items c.pop_front.new.self.items c.in-Some.load c.pop_front.result c.loop-load.invariant.same c.pop_front.ensures.items c.in-Some.is (omega (arith, c.if-len-gt0.false, c.len-len.ensures));
  kinds = λ k are. (first_kind k c.loop-load.loads.items c.pop_front.new.self.items c.in-Some.load c.pop_front.result c.pop_front.ensures.items c.in-Some.is (c.loop-load.invariant.kinds k are)).1;
}

pub loop-load-preserved-else-len-gt0-2 : goal.loop-load-preserved-else-len-gt0-2
loop-load-preserved-else-len-gt0-2 c = record {
  same = skipped c.args.loads.now.items c.loop-load.loads.items c.pop_front.new.self.items c.in-Some.load c.pop_front.result c.loop-load.invariant.same c.pop_front.ensures.items c.in-Some.is (omega (arith, c.if-len-gt0.false, c.len-len.ensures));
  kinds = λ k are. (first_kind k c.loop-load.loads.items c.pop_front.new.self.items c.in-Some.load c.pop_front.result c.pop_front.ensures.items c.in-Some.is (c.loop-load.invariant.kinds k are)).1;
}

pub loop-load-preserved-else-len-gt0-3 : goal.loop-load-preserved-else-len-gt0-3
loop-load-preserved-else-len-gt0-3 c = record {
  same = skipped c.args.loads.now.items c.loop-load.loads.items c.pop_front.new.self.items c.in-Some.load c.pop_front.result c.loop-load.invariant.same c.pop_front.ensures.items c.in-Some.is (omega (arith, c.if-len-gt0.false, c.len-len.ensures));
  kinds = λ k are. (first_kind k c.loop-load.loads.items c.pop_front.new.self.items c.in-Some.load c.pop_front.result c.pop_front.ensures.items c.in-Some.is (c.loop-load.invariant.kinds k are)).1;
}

pub loop-load-preserved-else-len-gt0-4 : goal.loop-load-preserved-else-len-gt0-4
loop-load-preserved-else-len-gt0-4 c = record {
  same = skipped c.args.loads.now.items c.loop-load.loads.items c.pop_front.new.self.items c.in-Some.load c.pop_front.result c.loop-load.invariant.same c.pop_front.ensures.items c.in-Some.is (omega (arith, c.if-len-gt0.false, c.len-len.ensures));
  kinds = λ k are. (first_kind k c.loop-load.loads.items c.pop_front.new.self.items c.in-Some.load c.pop_front.result c.pop_front.ensures.items c.in-Some.is (c.loop-load.invariant.kinds k are)).1;
}

pub loop-load-preserved-else-len-gt0-5 : goal.loop-load-preserved-else-len-gt0-5
loop-load-preserved-else-len-gt0-5 c = record {
  same = skipped c.args.loads.now.items c.loop-load.loads.items c.pop_front.new.self.items c.in-Some.load c.pop_front.result c.loop-load.invariant.same c.pop_front.ensures.items c.in-Some.is (omega (arith, c.if-len-gt0.false, c.len-len.ensures));
  kinds = λ k are. (first_kind k c.loop-load.loads.items c.pop_front.new.self.items c.in-Some.load c.pop_front.result c.pop_front.ensures.items c.in-Some.is (c.loop-load.invariant.kinds k are)).1;
}

pub loop-load-preserved : goal.loop-load-preserved
loop-load-preserved c = record {
  same = skipped c.args.loads.now.items c.loop-load.loads.items c.pop_front.new.self.items c.in-Some.load c.pop_front.result c.loop-load.invariant.same c.pop_front.ensures.items c.in-Some.is (omega (arith, c.if-len-gt0.false, c.len-len.ensures));
  kinds = λ k are. (first_kind k c.loop-load.loads.items c.pop_front.new.self.items c.in-Some.load c.pop_front.result c.pop_front.ensures.items c.in-Some.is (c.loop-load.invariant.kinds k are)).1;
}
