-- What the thread promised, and what was made of it here.
use Rattle.std.proofs.Common.{subst}
use Rattle.eval_hands.specs.Hiring.{IsHired}
use Rattle.eval_hands.specs.Returns.{Returns}
use Rattle.eval_hands.proofs.Backs.{returns_then}
use Rattle.eval_hands.proofs.hired.Hired.settle.Goals as goal

pub returns-in-Away-clause-returns : goal.returns-in-Away-clause-returns
returns-in-Away-clause-returns g c first is =
    let h = subst (λ x. IsHired g.W.Work.result_of c.args.place.now.work.now first x) c.in-Away.is is in
    let came = subst (λ a. Returns (g.W.Work.result_of c.in-Away.handle.promise.1.value) a c.join.result) h.0 c.join.ensures in
    returns_then _ first c.join.result c.run_hand-in-Away.result (subst (λ w. Returns (g.W.Work.result_of w) first c.join.result) h.1 came) c.run_hand-in-Away.ensures.returns
