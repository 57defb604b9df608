use Rattle.eval_hands.proofs.Deals.{team_hands}
use Rattle.eval_hands.proofs.Goings.{crew_new}
use Rattle.eval_hands.proofs.crew.Crew.begin.Goals as goal

pub begin_all-hands-requires-clause-at : goal.begin_all-hands-requires-clause-at
begin_all-hands-requires-clause-at g c κs within = team_hands c.requires.team.0 c.args.place.now.lanes.now c.args.dealer.lanes c.args.hands c.requires.team.1

pub returns : goal.returns
returns g c = crew_new g.W.Work.result_of c.args.place.now.work.now c.args.place.now.lanes.now (record { dealer = c.args.dealer; hands = c.begin_all-hands.result }) c.requires.team.0 c.args.hands c.requires.team.1 c.requires.team.2 c.requires.new.0 c.requires.new.1 c.begin_all-hands.ensures
