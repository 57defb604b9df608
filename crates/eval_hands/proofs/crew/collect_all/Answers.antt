-- The last hand of those that are left is taken in.
use Rattle.std.proofs.Common.{arith}
use Rattle.eval_hands.proofs.Crewing.{collected_all, collecting_more, collecting_none, last_at, last_hired, last_open}
use Rattle.eval_hands.proofs.crew.collect_all.Goals as goal

pub loop-hired-init : goal.loop-hired-init
loop-hired-init g c = collecting_none g.W.Work.result_of c.args.place.now.work.now c.args.place.now.lanes.now c.args.dealer.now.lanes c.args.dealer.now.ended c.args.hands.items c.requires.at c.requires.ended c.requires.open c.requires.hired

pub settle-hand-requires : goal.settle-hand-requires
settle-hand-requires g c = record { at = last_hired g.W.Work.result_of c.args.place.now.work.now c.args.place.now.lanes.now c.args.dealer.now.lanes c.loop-hired.dealer.lanes c.loop-hired.dealer.ended c.loop-hired.hands.items c.pop.new.self.items c.in-Some.hired c.loop-hired.invariant c.in-Some.ensures.items }

pub collect-requires-clause-hand : goal.collect-requires-clause-hand
collect-requires-clause-hand g c = last_at g.W.Work.result_of c.args.place.now.work.now c.args.place.now.lanes.now c.args.dealer.now.lanes c.loop-hired.dealer.lanes c.loop-hired.dealer.ended c.loop-hired.hands.items c.pop.new.self.items c.in-Some.hired c.loop-hired.invariant c.in-Some.ensures.items c.settle-hand.result c.settle-hand.ensures.returns

pub collect-requires-clause-open : goal.collect-requires-clause-open
collect-requires-clause-open g c = last_open g.W.Work.result_of c.args.place.now.work.now c.args.place.now.lanes.now c.args.dealer.now.lanes c.loop-hired.dealer.lanes c.loop-hired.dealer.ended c.loop-hired.hands.items c.pop.new.self.items c.in-Some.hired c.loop-hired.invariant c.in-Some.ensures.items c.settle-hand.result c.settle-hand.ensures.returns

pub loop-hired-preserved : goal.loop-hired-preserved
loop-hired-preserved g c =
    collecting_more g.W.Work.result_of c.args.place.now.work.now c.args.place.now.lanes.now c.args.dealer.now.lanes c.loop-hired.dealer.lanes c.loop-hired.dealer.ended c.loop-hired.hands.items c.pop.new.self.items c.in-Some.hired c.loop-hired.invariant c.in-Some.ensures.items c.settle-hand.result c.settle-hand.ensures.returns
    c.collect.new.self.lanes c.collect.new.self.ended c.collect.ensures.collects c.collect.ensures.at c.collect.ensures.same.1 c.collect.ensures.in_order

pub returns-clause-in_order : goal.returns-clause-in_order
returns-clause-in_order g c =
    collected_all g.W.Work.result_of c.args.place.now.work.now c.args.place.now.lanes.now c.args.dealer.now.lanes c.loop-hired.dealer.lanes c.loop-hired.dealer.ended c.loop-hired.hands.items c.loop-hired.invariant (omega (arith, c.in_default.ensures.cases.0, c.loop-hired.hands.ok)) (let n = c.requires.at.count in let m = c.requires.some in omega arith)
