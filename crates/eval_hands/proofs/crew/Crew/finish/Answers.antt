-- All ends are sent, and all hands taken in.
use Rattle.std.proofs.Common.{arith}
use Rattle.eval_hands.proofs.Deals.{in_order_results}
use Rattle.eval_hands.proofs.Goings.{crew_none, ends_missing}
use Rattle.eval_hands.proofs.crew.Crew.finish.Goals as goal

pub end_all-requires-clause-at : goal.end_all-requires-clause-at
end_all-requires-clause-at g c = c.requires.crew.2.at

pub end_all-requires-clause-out : goal.end_all-requires-clause-out
end_all-requires-clause-out g c = crew_none g.W.Work.result_of c.args.place.now.work.now c.args.place.now.lanes.now c.args.self c.args.self c.requires.crew.0 c.requires.crew.1 c.requires.crew.2 c.requires.crew.3

pub end_all-requires-clause-missing : goal.end_all-requires-clause-missing
end_all-requires-clause-missing g c = ends_missing g.W.Work.result_of c.args.place.now.work.now c.args.place.now.lanes.now c.args.self c.requires.crew.0 c.requires.crew.1 c.requires.crew.2

pub end_all-requires-clause-hired : goal.end_all-requires-clause-hired
end_all-requires-clause-hired g c = c.requires.crew.2.hired

pub end_all-requires-clause-open : goal.end_all-requires-clause-open
end_all-requires-clause-open g c = c.requires.crew.2.uncollected

pub collect_all-requires-clause-some : goal.collect_all-requires-clause-some
collect_all-requires-clause-some g c = let a = c.requires.crew.2.some in let b = c.requires.crew.2.at.count in let d = c.end_all.ensures.at.count in omega arith

pub returns : goal.returns
returns g c ds ws k count =
    in_order_results (g.W.Work.result_of c.args.place.now.work.now) c.collect_all.new.dealer.lanes ds ws (c.collect_all.ensures.dealt ds ws (c.end_all.ensures.dealt ds ws k.has)) count c.collect_all.ensures.in_order
