-- The next hand of the list is hired.
use Rattle.std.proofs.Common.{List, [], ◌∷◌, length, sym, ap, ◌∙◌, subst, arith, length-append}
use Rattle.std.proofs.lemmas.Iterator.Adapters.{YieldsList-from_vec}
use Rattle.std.proofs.lemmas.Iterator.Consumers.{YieldsList-end, YieldsList-turn}
use Rattle.par_eval.specs.Hands.{HandSeen}
use Rattle.eval_hands.specs.Crews.{AreAllAt}
use Rattle.eval_hands.proofs.Crewing.{hired_more, turn_hand}
use Rattle.eval_hands.proofs.crew.begin_all.Goals as goal

pub hire-requires-clause-at : goal.hire-requires-clause-at
hire-requires-clause-at g c κs within =
    let all = c.into_vec-hand-items.result.items in
    let starts = c.into_iter-hand-iterator.ensures.into_iter_gives in
    let road = YieldsList-from_vec {s = c.into_iter-hand-iterator.result} all starts.0 (starts.1 ∙ c.into_vec-hand-items.result.ok.0) in
    let turn = YieldsList-turn road c.loop-hand.yielded c.loop-hand.hand-iterator c.loop-hand.yielded_by c.next.result c.next.new.self c.in-Some.hand c.in-Some.is c.next.ensures.steps in
    turn_hand c.args.place.now.lanes.now all (length c.loop-hand.yielded) c.in-Some.hand (subst (λ (l : List HandSeen). AreAllAt c.args.place.now.lanes.now l) (sym c.into_vec-hand-items.ensures) c.requires.at) turn

pub push_reserved-requires : goal.push_reserved-requires
push_reserved-requires g c =
    let all = c.into_vec-hand-items.result.items in
    let starts = c.into_iter-hand-iterator.ensures.into_iter_gives in
    let road = YieldsList-from_vec {s = c.into_iter-hand-iterator.result} all starts.0 (starts.1 ∙ c.into_vec-hand-items.result.ok.0) in
    let turn = YieldsList-turn road c.loop-hand.yielded c.loop-hand.hand-iterator c.loop-hand.yielded_by c.next.result c.next.new.self c.in-Some.hand c.in-Some.is c.next.ensures.steps in
    let less = turn.0 in let same = ap length c.into_vec-hand-items.ensures in let inv = c.loop-hand.invariant in let n = inv.count in let room = inv.room in let ok = c.loop-hand.hired.ok.0 in
    omega arith

pub loop-hand-preserved : goal.loop-hand-preserved
loop-hand-preserved g c =
    let all = c.into_vec-hand-items.result.items in
    let starts = c.into_iter-hand-iterator.ensures.into_iter_gives in
    let road = YieldsList-from_vec {s = c.into_iter-hand-iterator.result} all starts.0 (starts.1 ∙ c.into_vec-hand-items.result.ok.0) in
    let turn = YieldsList-turn road c.loop-hand.yielded c.loop-hand.hand-iterator c.loop-hand.yielded_by c.next.result c.next.new.self c.in-Some.hand c.in-Some.is c.next.ensures.steps in
    let inv = c.loop-hand.invariant in
    record {
      count = ap length c.push_reserved.ensures.items ∙ (let n = inv.count in let a = length-append c.loop-hand.hired.items (c.hire.result ∷ []) in let b = length-append c.loop-hand.yielded (c.in-Some.hand ∷ []) in omega arith);
      first = hired_more g.W.Work.result_of c.args.place.now.work.now c.args.place.now.lanes.now c.loop-hand.hired.items c.hire.result all (length c.loop-hand.yielded) c.in-Some.hand inv.count (subst (λ (l : List HandSeen). AreAllAt c.args.place.now.lanes.now l) (sym c.into_vec-hand-items.ensures) c.requires.at) turn c.hire.ensures inv.first c.push_reserved.new.self.items c.push_reserved.ensures.items;
      room = let a = inv.room in let b = c.push_reserved.ensures.capacity in omega arith;
    }

pub returns : goal.returns
returns g c =
    let all = c.into_vec-hand-items.result.items in
    let starts = c.into_iter-hand-iterator.ensures.into_iter_gives in
    let road = YieldsList-from_vec {s = c.into_iter-hand-iterator.result} all starts.0 (starts.1 ∙ c.into_vec-hand-items.result.ok.0) in
    let end = YieldsList-end road c.loop-hand.yielded c.loop-hand.hand-iterator c.loop-hand.yielded_by c.next.result c.next.new.self c.in-None.is c.next.ensures.steps in
    let inv = c.loop-hand.invariant in
    record { count = inv.count ∙ (end.1 ∙ (ap length c.into_vec-hand-items.ensures ∙ c.requires.at.count)); each = inv.first }
