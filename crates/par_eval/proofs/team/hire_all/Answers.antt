use Rattle.par_eval.proofs.Dealing.{team_push}
use Rattle.par_eval.proofs.team.hire_all.Goals as goal

pub loop-number-preserved : goal.loop-number-preserved
loop-number-preserved g c =
    let n = c.in_ok-lane in
    team_push c.loop-number.number c.loop-number.lanes.items c.push.new.self.items c.loop-number.seats.items c.push-in-loop-number.new.self.items c.loop-number.hands.items c.push-in-loop-number-2.new.self.items
    n.field-0.lane n.field-0.seat n.field-0.hand n.ensures.seat n.ensures.hand
    c.in_ok-push.ensures.items c.in_ok-push-2.ensures.items c.in_ok-push-3.ensures.items c.loop-number.invariant
