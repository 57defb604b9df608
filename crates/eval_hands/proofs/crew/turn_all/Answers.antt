use Rattle.std.proofs.Common.{arith}
use Rattle.std.proofs.lemmas.List.{length-set}
use Rattle.eval_hands.proofs.Crewing.{at_place, hired_here, hired_turned}
use Rattle.eval_hands.proofs.crew.turn_all.Goals as goal

pub turn-requires : goal.turn-requires
turn-requires g c =
    let inv = c.loop-i.invariant in let all = c.requires.hired in let end = c.len-i-end.ensures in let test = c.loop-i-test.true in let now = inv.count in let first = all.count in
    let at = at_place c.loop-i.hands.items c.loop-i.i c.index_mut.result.now (omega arith) c.index_mut.ensures.value in
    record { at = hired_here g.W.Work.result_of c.args.place.now.work.now c.args.place.now.lanes.now c.loop-i.i c.index_mut.result.now (inv.each c.loop-i.i c.index_mut.result.now at) }

pub loop-i-preserved : goal.loop-i-preserved
loop-i-preserved g c =
    let inv = c.loop-i.invariant in let all = c.requires.hired in let end = c.len-i-end.ensures in let test = c.loop-i-test.true in let now = inv.count in let first = all.count in
    let at = at_place c.loop-i.hands.items c.loop-i.i c.index_mut.result.now (omega arith) c.index_mut.ensures.value in
    hired_turned g.W.Work.result_of c.args.place.now.work.now c.args.place.now.lanes.now c.loop-i.hands.items c.loop-i.i c.index_mut.result.now c.turn.new.self inv at c.turn.ensures.hired (length-set c.loop-i.hands.items c.loop-i.i c.turn.new.self)
