use Rattle.std.proofs.Common.{◌≡◌, ℕ, List, false, length, sym, ap, ◌∙◌, subst, arith}
use Rattle.std.proofs.lemmas.List.{length-map}
use Rattle.chunk_core.specs.Totals.{IsAt}
use Rattle.chunk_core.proofs.Totals.{map_back, one_at}
use Rattle.par_eval.specs.Dealers.{IsDealerAt, IsTeam, LaneSeen, new_hand, new_lane}
use Rattle.par_eval.specs.Hands.{HandSeen, IsHandAt}
use Rattle.par_eval.specs.Lanes.{LaneHubs}
use Rattle.par_eval.proofs.Places.{at_below}
use Rattle.par_eval.proofs.SeatLists.{at_exists}
use Rattle.worked_threads.proofs.hands.hire.Goals as goal

team_at : (jobs : ℕ) (hubs : List LaneHubs) (lanes : List LaneSeen) (hands : List HandSeen) → IsTeam jobs hubs lanes hands → IsDealerAt hubs lanes
team_at jobs hubs lanes hands team = record {
  count = ap length team.lanes_are ∙ length-map hubs new_lane;
  places = λ h lane hub at place.
      let x = map_back new_lane hubs h lane (subst (λ (ls : List LaneSeen). IsAt ls h lane) team.lanes_are at) in
      let e = sym x.2 ∙ ap (λ (y : LaneHubs). new_lane y) (one_at hubs h x.0 hub x.1 place) in
      (ap (λ (y : LaneSeen). y.tasks.hub) e, ap (λ (y : LaneSeen). y.results.hub) e);
}

team_hands : (jobs : ℕ) (hubs : List LaneHubs) (lanes : List LaneSeen) (hands : List HandSeen) → IsTeam jobs hubs lanes hands → (i : ℕ) (hand : HandSeen) → IsAt hands i hand → IsHandAt hubs hand × (hand.over ≡ false)
team_hands jobs hubs lanes hands team i hand at =
    let hub = at_exists hubs i (let less = at_below hands i hand at in let a = team.hands_count in let b = team.count in omega arith) in
    let e = one_at hands i hand (new_hand i hub.0) at (team.hands_are i hub.0 hub.1) in (
      record {
        lane = hub.0;
        place = subst (λ k. IsAt hubs k hub.0) (sym (ap (λ (y : HandSeen). y.number) e)) hub.1;
        tasks = ap (λ (y : HandSeen). y.tasks.hub) e;
        results = ap (λ (y : HandSeen). y.results.hub) e;
      },
      ap (λ (y : HandSeen). y.over) e,
    )

pub returns-clause-at : goal.returns-clause-at
returns-clause-at c = team_at c.args.jobs c.in_ok-lanes.lanes c.in_ok-lanes.dealer.lanes c.in_ok-lanes.hands c.in_ok-lanes.ensures.team

pub returns-clause-each : goal.returns-clause-each
returns-clause-each c = λ i hand at. team_hands c.args.jobs c.in_ok-lanes.lanes c.in_ok-lanes.dealer.lanes c.in_ok-lanes.hands c.in_ok-lanes.ensures.team i hand (subst (λ (hs : List HandSeen). IsAt hs i hand) c.into_vec.ensures at)
