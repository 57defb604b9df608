-- A crew that deals and takes.
use Rattle.std.proofs.Common.{◌≡◌, ℕ, ◌+◌, ◌<◌, List, [], ◌∷◌, ◌++◌, length, None, sym, ap, ◌∙◌, subst, arith, length-append}
use Rattle.chunk_core.specs.declared.load.Load.{Load as Piece}
use Rattle.par_eval.specs.Dealers.{DealerSeen, IsDealerAt, IsDealt, IsTaken, IsTeam, Puts, Takes, dealt, ends_sent, taken}
use Rattle.par_eval.specs.Hands.{HandSeen}
use Rattle.par_eval.specs.Lanes.{LaneHubs}
use Rattle.par_eval.specs.Messages.{Meaning}
use Rattle.par_eval.specs.declared.work.Worked.{Worked}
use Rattle.eval_hands.specs.Crews.{AreHired, AreUncollected, HasDealt, IsCrew}
use Rattle.eval_hands.specs.declared.crew.Crew.{Crew}
use Rattle.eval_hands.proofs.Deals.{nothing_dealt, put_counts, put_has, put_length, put_same, put_uncollected, take_counts, take_has, take_length, take_none, take_uncollected, team_at, team_counts, team_uncollected}

one_longer : {A : Type 0} (xs : List A) (x : A) → length (xs ++ x ∷ []) ≡ length xs + 1
one_longer xs x = length-append xs (x ∷ [])

module _ {W : Type 0} (r : W → Meaning) (work : W) (hubs : List LaneHubs) (c d : Crew W) (ds : List Piece) (ws : List Worked) (k : IsCrew r work hubs c ds ws) where
  pub crew_room : length ds < length ws + length hubs → c.dealer.out < length c.dealer.lanes
  crew_room l = let n = k.count in let m = k.at.count in omega (arith, n, m, l)

  pub crew_some : length ws < length ds → 0 < c.dealer.out
  crew_some l = let n = k.count in omega (arith, n, l)

  pub crew_none : length ws ≡ length ds → c.dealer.out ≡ 0
  crew_none e = let n = k.count in omega (arith, n, e)

  -- only the hands went on
  pub crew_turned : d.dealer ≡ c.dealer → AreHired r work hubs d.hands.items → IsCrew r work hubs d ds ws
  crew_turned same hired = record {
    at = subst (λ (x : DealerSeen). IsDealerAt hubs x.lanes) (sym same) k.at;
    some = subst (λ (x : DealerSeen). 0 < length x.lanes) (sym same) k.some;
    goes_on = ap (λ (x : DealerSeen). x.ended) same ∙ k.goes_on;
    uncollected = subst (λ (x : DealerSeen). AreUncollected x.lanes) (sym same) k.uncollected;
    hired = hired;
    has = subst (λ (x : DealerSeen). HasDealt x.lanes ds ws) (sym same) k.has;
    loads = ap (λ (x : DealerSeen). dealt x.lanes) same ∙ k.loads;
    results = ap (λ (x : DealerSeen). taken x.lanes) same ∙ k.results;
    count = ap (λ (x : DealerSeen). length ws + x.out) same ∙ k.count;
  }

  pub crew_put : (load : Piece) → Puts load c.dealer d.dealer → IsDealt d.dealer.lanes (dealt c.dealer.lanes) load → IsDealerAt hubs d.dealer.lanes → AreHired r work hubs d.hands.items → IsCrew r work hubs d (ds ++ load ∷ []) ws
  crew_put load p is at hired =
      let counts = put_counts c.dealer d.dealer load p in
      let same = put_same c.dealer d.dealer load p in
      let more = one_longer ds load in
      record {
        at = at;
        some = let l = put_length c.dealer d.dealer load p in let s = k.some in omega (arith, l, s);
        goes_on = same.1 ∙ k.goes_on;
        uncollected = put_uncollected c.dealer d.dealer load p k.uncollected;
        hired = hired;
        has = put_has c.dealer d.dealer load p ds ws k.loads is k.has;
        loads = let a = counts.0 in let b = k.loads in omega (arith, a, b, more);
        results = counts.1 ∙ k.results;
        count = let o = same.0 in let n = k.count in omega (arith, o, n, more);
      }

  pub crew_take : (w : Worked) → Takes (w ∷ []) c.dealer d.dealer → IsTaken d.dealer.lanes (taken c.dealer.lanes) w → IsDealerAt hubs d.dealer.lanes → AreHired r work hubs d.hands.items → IsCrew r work hubs d ds (ws ++ w ∷ [])
  crew_take w t is at hired =
      let counts = take_counts (w ∷ []) c.dealer d.dealer t in
      let more = one_longer ws w in
      record {
        at = at;
        some = let l = take_length (w ∷ []) c.dealer d.dealer t in let s = k.some in omega (arith, l, s);
        goes_on = t.ended ∙ k.goes_on;
        uncollected = take_uncollected (w ∷ []) c.dealer d.dealer t k.uncollected;
        hired = hired;
        has = take_has w c.dealer d.dealer t ds ws k.results is k.has;
        loads = counts.0 ∙ k.loads;
        results = let a = counts.1 in let b = k.results in omega (arith, a, b, more);
        count = let o = t.out in let n = k.count in omega (arith, o, n, more);
      }

  pub crew_waits : Takes [] c.dealer d.dealer → IsDealerAt hubs d.dealer.lanes → AreHired r work hubs d.hands.items → IsCrew r work hubs d ds ws
  crew_waits t at hired =
      let counts = take_counts [] c.dealer d.dealer t in
      record {
        at = at;
        some = let l = take_length [] c.dealer d.dealer t in let s = k.some in omega (arith, l, s);
        goes_on = t.ended ∙ k.goes_on;
        uncollected = take_uncollected [] c.dealer d.dealer t k.uncollected;
        hired = hired;
        has = take_none c.dealer d.dealer t ds ws k.has;
        loads = counts.0 ∙ k.loads;
        results = let a = counts.1 in let b = k.results in omega (arith, a, b);
        count = let o = t.out in let n = k.count in omega (arith, o, n);
      }

-- no hand has its end yet
pub ends_missing : {W : Type 0} (r : W → Meaning) (work : W) (hubs : List LaneHubs) (c : Crew W) (ds : List Piece) (ws : List Worked) → IsCrew r work hubs c ds ws → ends_sent c.dealer.ended < length c.dealer.lanes
ends_missing r work hubs c ds ws k = subst (λ e. ends_sent e < length c.dealer.lanes) (sym k.goes_on) k.some

-- a crew of new hands
pub crew_new : {W : Type 0} (r : W → Meaning) (work : W) (hubs : List LaneHubs) (c : Crew W) (jobs : ℕ) (hands : List HandSeen) → IsTeam jobs hubs c.dealer.lanes hands → 0 < jobs → c.dealer.out ≡ 0 → c.dealer.ended ≡ None → AreHired r work hubs c.hands.items → IsCrew r work hubs c [] []
crew_new r work hubs c jobs hands team busy none begins hired =
    let counts = team_counts jobs hubs c.dealer.lanes hands team in
    record {
      at = team_at jobs hubs c.dealer.lanes hands team;
      some = let a = (team_at jobs hubs c.dealer.lanes hands team).count in let n = team.count in omega (arith, a, n, busy);
      goes_on = begins;
      uncollected = team_uncollected jobs hubs c.dealer.lanes hands team;
      hired = hired;
      has = nothing_dealt c.dealer.lanes;
      loads = counts.0;
      results = counts.1;
      count = omega (arith, none);
    }
