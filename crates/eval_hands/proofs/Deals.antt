-- What was dealt and taken stays so as a dealer goes on.
use Rattle.std.proofs.Common.{◌≡◌, ◌≢◌, ℕ, suc, ◌+◌, ◌%◌, ◌/◌, ◌<◌, ◌≤◌, List, [], ◌∷◌, ◌++◌, length, Some, None, inl, inr, slice_set, refl, sym, ap, ◌∙◌, subst, ⊎_elim, arith, length-append, append-nil}
use Rattle.std.proofs.lemmas.Bool.{cases_eq, cases_lt}
use Rattle.std.proofs.lemmas.List.{length-map, length-set}
use Rattle.chunk_core.specs.Totals.{IsAt}
use Rattle.chunk_core.specs.declared.load.Load.{Load as Piece}
use Rattle.chunk_core.proofs.Changes.{at_more}
use Rattle.chunk_core.proofs.Places.{at_longer}
use Rattle.chunk_core.proofs.Totals.{each, map_back, one_at, put_else, put_here, total_none, total_set}
use Rattle.channel_bounded.specs.Ends.{SenderSeen}
use Rattle.channel_bounded.specs.declared.message.Body.TheVariants.{Load}
use Rattle.par_eval.specs.Dealers.{AllAnswer, AreInOrder, CollectsAt, DealerSeen, IsDealerAt, IsDealt, IsTaken, IsTeam, LaneSeen, Puts, SendsEnds, Takes, collects, dealt, dealt_to, message, new_hand, new_lane, posted, taken, taken_from, the_end}
use Rattle.par_eval.specs.Hands.{Answers, HandSeen, IsHandAt, IsSameHand}
use Rattle.par_eval.specs.Lanes.{LaneHubs}
use Rattle.par_eval.specs.Messages.{AreResults, IsResult, Meaning, bodies, loads_in}
use Rattle.par_eval.specs.declared.work.Worked.{Worked}
use Rattle.par_eval.proofs.Dealing.{posted_load}
use Rattle.par_eval.proofs.Pairs.{bodies_more, loads_more}
use Rattle.par_eval.proofs.Places.{at_below}
use Rattle.par_eval.proofs.SeatLists.{at_exists, ends_back}
use Rattle.eval_hands.specs.Crews.{AreAllAt, AreUncollected, HasDealt}

-- One lane changes.
module _ (a : List LaneSeen) (k : ℕ) (lane after : LaneSeen) (here : IsAt a k lane) where
  lane_stays : (P : LaneSeen → Type 0) → (P lane → P after) → (j : ℕ) → (u : LaneSeen) × IsAt a j u × P u → (u : LaneSeen) × IsAt (slice_set a k after) j u × P u
  lane_stays P f j t = ⊎_elim
      (λ (e : j ≡ k). (after, subst (λ n. IsAt (slice_set a k after) n after) (sym e) (put_here a k lane after here), f (subst P (one_at a k t.0 lane (subst (λ n. IsAt a n t.0) e t.1) here) t.2)))
      (λ ne. (t.0, put_else a k j t.0 after ne t.1, t.2))
      (cases_eq j k)

  pub dealt_stays : ((q : ℕ) (l : Piece) → IsAt (dealt_to lane) q l → IsAt (dealt_to after) q l) → (i : ℕ) (l : Piece) → IsDealt a i l → IsDealt (slice_set a k after) i l
  dealt_stays f i l t = subst (λ n. (u : LaneSeen) × IsAt (slice_set a k after) (i % n) u × IsAt (dealt_to u) (i / n) l) (sym (length-set a k after))
      (lane_stays (λ u. IsAt (dealt_to u) (i / length a) l) (f (i / length a) l) (i % length a) t)

  pub taken_stays : ((q : ℕ) (w : Worked) → IsAt (taken_from lane) q w → IsAt (taken_from after) q w) → (i : ℕ) (w : Worked) → IsTaken a i w → IsTaken (slice_set a k after) i w
  taken_stays f i w t = subst (λ n. (u : LaneSeen) × IsAt (slice_set a k after) (i % n) u × IsAt (taken_from u) (i / n) w) (sym (length-set a k after))
      (lane_stays (λ u. IsAt (taken_from u) (i / length a) w) (f (i / length a) w) (i % length a) t)

  pub uncollected_stays : after.collected ≡ lane.collected → AreUncollected a → AreUncollected (slice_set a k after)
  uncollected_stays e u = each a k after (λ h l. l.collected ≡ None) (e ∙ u k lane here) (λ h l ne g. u h l g)

  has_stays : ((q : ℕ) (l : Piece) → IsAt (dealt_to lane) q l → IsAt (dealt_to after) q l) → ((q : ℕ) (w : Worked) → IsAt (taken_from lane) q w → IsAt (taken_from after) q w)
      → (ds : List Piece) (ws : List Worked) → HasDealt a ds ws → HasDealt (slice_set a k after) ds ws
  has_stays f g ds ws h = record { loads = λ i l at. dealt_stays f i l (h.loads i l at); results = λ i w at. taken_stays g i w (h.results i w at) }

one_more : {A : Type 0} (xs : List A) (x : A) → length (xs ++ x ∷ []) ≡ length xs + 1
one_more xs x = length-append xs (x ∷ [])

-- A load is dealt.
module _ (a b : DealerSeen) (load : Piece) (p : Puts load a b) where
  place : ℕ
  place = dealt a.lanes % length a.lanes

  abbrev new : LaneSeen
  new = posted p.lane (Load load)

  abbrev lanes_now : List LaneSeen
  lanes_now = slice_set a.lanes (dealt a.lanes % length a.lanes) new

  lanes_are : b.lanes ≡ lanes_now
  lanes_are = ap (λ (x : DealerSeen). x.lanes) p.becomes

  longer : (q : ℕ) (l : Piece) → IsAt (dealt_to p.lane) q l → IsAt (dealt_to new) q l
  longer q l at = subst (λ xs. IsAt xs q l) (sym (posted_load p.lane load)) (at_longer (dealt_to p.lane) (load ∷ []) q l at)

  pub put_has : (ds : List Piece) (ws : List Worked) → dealt a.lanes ≡ length ds → IsDealt b.lanes (dealt a.lanes) load → HasDealt a.lanes ds ws → HasDealt b.lanes (ds ++ load ∷ []) ws
  put_has ds ws count is h =
      let s : HasDealt b.lanes ds ws = subst (λ l. HasDealt l ds ws) (sym lanes_are) (has_stays a.lanes (dealt a.lanes % length a.lanes) p.lane new p.place longer (λ q w at. at) ds ws h) in
      record {
        loads = λ i l at. ⊎_elim (λ g. s.loads i l g) (λ e. subst (λ n. IsDealt b.lanes n l) (count ∙ sym e.0) (subst (λ x. IsDealt b.lanes (dealt a.lanes) x) e.1 is)) (at_more ds load i l at);
        results = s.results;
      }

  pub put_counts : (dealt b.lanes ≡ dealt a.lanes + 1) × (taken b.lanes ≡ taken a.lanes)
  put_counts =
      let k = dealt a.lanes % length a.lanes in
      let x = total_set (λ l. length (dealt_to l)) a.lanes k p.lane new p.place in
      let y = total_set (λ l. length (taken_from l)) a.lanes k p.lane new p.place in
      let m : length (dealt_to new) ≡ length (dealt_to p.lane) + 1 = ap length (posted_load p.lane load) ∙ one_more (dealt_to p.lane) load in
      (ap dealt lanes_are ∙ (omega arith), ap taken lanes_are ∙ (omega arith))

  pub put_length : length b.lanes ≡ length a.lanes
  put_length = ap length lanes_are ∙ length-set a.lanes (dealt a.lanes % length a.lanes) new

  pub put_uncollected : AreUncollected a.lanes → AreUncollected b.lanes
  put_uncollected u = subst AreUncollected (sym lanes_are) (uncollected_stays a.lanes (dealt a.lanes % length a.lanes) p.lane new p.place refl u)

  pub put_same : (b.out ≡ a.out + 1) × (b.ended ≡ a.ended)
  put_same = (ap (λ (x : DealerSeen). x.out) p.becomes, ap (λ (x : DealerSeen). x.ended) p.becomes)

-- Results are taken, or none.
module _ (vs : List Worked) (a b : DealerSeen) (t : Takes vs a b) where
  abbrev after_take : List LaneSeen
  after_take = slice_set a.lanes (taken a.lanes % length a.lanes) t.after

  same_loads : dealt_to t.after ≡ dealt_to t.lane
  same_loads = ap (λ (s : SenderSeen). loads_in (bodies s.sent)) t.takes.tasks

  take_stays : (ds : List Piece) (ws : List Worked) → HasDealt a.lanes ds ws → HasDealt b.lanes ds ws
  take_stays ds ws h = subst (λ l. HasDealt l ds ws) (sym t.lanes) (has_stays a.lanes (taken a.lanes % length a.lanes) t.lane t.after t.place
      (λ q l at. subst (λ xs. IsAt xs q l) (sym same_loads) at)
      (λ q w at. subst (λ xs. IsAt xs q w) (sym t.takes.takes) (at_longer (taken_from t.lane) vs q w at)) ds ws h)

  pub take_counts : (dealt b.lanes ≡ dealt a.lanes) × (taken b.lanes ≡ taken a.lanes + length vs)
  take_counts =
      let k = taken a.lanes % length a.lanes in
      let x = total_set (λ l. length (dealt_to l)) a.lanes k t.lane t.after t.place in
      let y = total_set (λ l. length (taken_from l)) a.lanes k t.lane t.after t.place in
      let m : length (dealt_to t.after) ≡ length (dealt_to t.lane) = ap length same_loads in
      let n : length (taken_from t.after) ≡ length (taken_from t.lane) + length vs = ap length t.takes.takes ∙ length-append (taken_from t.lane) vs in
      (ap dealt t.lanes ∙ (omega arith), ap taken t.lanes ∙ (omega arith))

  pub take_length : length b.lanes ≡ length a.lanes
  take_length = ap length t.lanes ∙ length-set a.lanes (taken a.lanes % length a.lanes) t.after

  pub take_uncollected : AreUncollected a.lanes → AreUncollected b.lanes
  take_uncollected u = subst AreUncollected (sym t.lanes) (uncollected_stays a.lanes (taken a.lanes % length a.lanes) t.lane t.after t.place t.takes.collected u)

pub take_has : (w : Worked) (a b : DealerSeen) (t : Takes (w ∷ []) a b) (ds : List Piece) (ws : List Worked) → taken a.lanes ≡ length ws → IsTaken b.lanes (taken a.lanes) w → HasDealt a.lanes ds ws → HasDealt b.lanes ds (ws ++ w ∷ [])
take_has w a b t ds ws count is h =
    let s = take_stays (w ∷ []) a b t ds ws h in
    record {
      loads = s.loads;
      results = λ i x at. ⊎_elim (λ g. s.results i x g) (λ e. subst (λ n. IsTaken b.lanes n x) (count ∙ sym e.0) (subst (λ y. IsTaken b.lanes (taken a.lanes) y) e.1 is)) (at_more ws w i x at);
    }

pub take_none : (a b : DealerSeen) (t : Takes [] a b) (ds : List Piece) (ws : List Worked) → HasDealt a.lanes ds ws → HasDealt b.lanes ds ws
take_none a b t = take_stays [] a b t

-- Ends are sent.
module _ (m n : ℕ) (a b : List LaneSeen) (s : SendsEnds m n a b) where
  with_end : (lane : LaneSeen) → dealt_to (posted lane the_end) ≡ dealt_to lane
  with_end lane = ap loads_in (bodies_more lane.tasks.sent (message the_end)) ∙ (loads_more (bodies lane.tasks.sent) (the_end ∷ []) ∙ append-nil (dealt_to lane))

  end_stays : (P : LaneSeen → Type 0) → ((l : LaneSeen) → P l → P (posted l the_end)) → (j : ℕ) → (u : LaneSeen) × IsAt a j u × P u → (u : LaneSeen) × IsAt b j u × P u
  end_stays P f j t = ⊎_elim
      (λ low. (t.0, s.others j t.0 t.1 (inl low), t.2))
      (λ from. ⊎_elim (λ less. (posted t.0 the_end, s.sent j t.0 t.1 from less, f t.0 t.2)) (λ high. (t.0, s.others j t.0 t.1 (inr high), t.2)) (cases_lt j n))
      (cases_lt j m)

  pub ends_has : (ds : List Piece) (ws : List Worked) → HasDealt a ds ws → HasDealt b ds ws
  ends_has ds ws h = record {
    loads = λ i l at. subst (λ k. (u : LaneSeen) × IsAt b (i % k) u × IsAt (dealt_to u) (i / k) l) (sym s.count)
        (end_stays (λ u. IsAt (dealt_to u) (i / length a) l) (λ u g. subst (λ xs. IsAt xs (i / length a) l) (sym (with_end u)) g) (i % length a) (h.loads i l at));
    results = λ i w at. subst (λ k. (u : LaneSeen) × IsAt b (i % k) u × IsAt (taken_from u) (i / k) w) (sym s.count)
        (end_stays (λ u. IsAt (taken_from u) (i / length a) w) (λ u g. g) (i % length a) (h.results i w at));
  }

  pub ends_uncollected : AreUncollected a → AreUncollected b
  ends_uncollected u h after g = let x = ends_back m n a b s h after g in ⊎_elim (λ e. ap (λ (l : LaneSeen). l.collected) e ∙ u h x.0 x.1) (λ e. ap (λ (l : LaneSeen). l.collected) e ∙ u h x.0 x.1) x.2

-- A hand is taken in.
pub collect_has : (hand : HandSeen) (a b : List LaneSeen) → CollectsAt hand a b → (ds : List Piece) (ws : List Worked) → HasDealt a ds ws → HasDealt b ds ws
collect_has hand a b c ds ws h = subst (λ l. HasDealt l ds ws) (sym c.2) (has_stays a hand.number c.0 (collects c.0 hand) c.1 (λ q l at. at) (λ q w at. at) ds ws h)

-- the hands from number n on were taken in, and what each of them said are results; the others weren't
pub record AreTakenIn (f : Meaning) (n : ℕ) (lanes : List LaneSeen) : Type 0 where
  pub before : (h : ℕ) (lane : LaneSeen) → IsAt lanes h lane → h < n → lane.collected ≡ None
  pub behind : (h : ℕ) (lane : LaneSeen) → IsAt lanes h lane → n ≤ h → (hand : HandSeen) × (lane.collected ≡ Some hand) × Answers f hand

pub none_taken_in : (f : Meaning) (lanes : List LaneSeen) → AreUncollected lanes → AreTakenIn f (length lanes) lanes
none_taken_in f lanes u = record { before = λ h lane g less. u h lane g; behind = λ h lane g le. absurd (let b = at_below lanes h lane g in omega arith) }

pub one_taken_in : (f : Meaning) (hand : HandSeen) (a b : List LaneSeen) (n : ℕ) → CollectsAt hand a b → hand.number ≡ n → Answers f hand → AreTakenIn f (suc n) a → AreTakenIn f n b
one_taken_in f hand a b n c is answers t = subst (λ l. AreTakenIn f n l) (sym c.2) (record {
  before = each a hand.number new (λ h l. h < n → l.collected ≡ None) (λ less. absurd (omega arith)) (λ h l ne g less. t.before h l g (omega arith));
  behind = each a hand.number new (λ h l. n ≤ h → (x : HandSeen) × (l.collected ≡ Some x) × Answers f x) (λ le. (hand, refl, answers)) (λ h l ne g le. t.behind h l g (⊎_elim (λ (e : h ≡ n). absurd (ne (e ∙ sym is))) (λ (m : h ≢ n). higher h n le m) (cases_eq h n)));
})
  where
    new : LaneSeen
    new = collects c.0 hand

    higher : (h n : ℕ) → n ≤ h → h ≢ n → suc n ≤ h
    higher h n le ne = ⊎_elim (λ (l : n < h). l) (λ (g : h ≤ n). absurd (ne (omega arith))) (cases_lt n h)

pub all_taken_in : (f : Meaning) (lanes : List LaneSeen) → AreTakenIn f 0 lanes → AllAnswer f lanes
all_taken_in f lanes t h lane at = t.behind h lane at (omega arith)

-- in order, the results are those of the loads
pub in_order_results : (f : Meaning) (lanes : List LaneSeen) (ds : List Piece) (ws : List Worked) → HasDealt lanes ds ws → length ws ≡ length ds → AreInOrder f lanes → AreResults f ds ws
in_order_results f lanes ds ws h count order i w at =
    let r = order i w (h.results i w at) in
    let d = at_exists ds i (let b = at_below ws i w at in omega arith) in
    let own = h.loads i d.0 d.1 in
    let lane : own.0 ≡ r.1.0 = one_at lanes (i % length lanes) own.0 r.1.0 own.1 r.1.1 in
    let same : d.0 ≡ r.0 = one_at (dealt_to r.1.0) (i / length lanes) d.0 r.0 (subst (λ u. IsAt (dealt_to u) (i / length lanes) d.0) lane own.2) r.1.2 in (d.0, d.1, subst (λ l. IsResult f l w) (sym same) r.2)

-- Where a crew begins.
pub hand_stays : (hubs : List LaneHubs) (a b : HandSeen) → IsSameHand a b → IsHandAt hubs a → IsHandAt hubs b
hand_stays hubs a b s h = record {
  lane = h.lane;
  place = subst (λ n. IsAt hubs n h.lane) (sym s.number) h.place;
  tasks = s.tasks ∙ h.tasks;
  results = s.results ∙ h.results;
}

pub new_at : (hubs : List LaneHubs) (i : ℕ) (hub : LaneHubs) → IsAt hubs i hub → IsHandAt hubs (new_hand i hub)
new_at hubs i hub at = record { lane = hub; place = at; tasks = refl; results = refl }

-- a hand that received nothing says nothing
pub new_answers : (f : Meaning) (i : ℕ) (hub : LaneHubs) → Answers f (new_hand i hub)
new_answers f i hub q w at = absurd (let b = at_below [] q w at in omega arith)

module _ (jobs : ℕ) (hubs : List LaneHubs) (lanes : List LaneSeen) (hands : List HandSeen) (team : IsTeam jobs hubs lanes hands) where
  lane_new : (h : ℕ) (lane : LaneSeen) → IsAt lanes h lane → (hub : LaneHubs) × IsAt hubs h hub × (new_lane hub ≡ lane)
  lane_new h lane g = map_back new_lane hubs h lane (subst (λ l. IsAt l h lane) team.lanes_are g)

  pub team_at : IsDealerAt hubs lanes
  team_at = record {
    count = ap length team.lanes_are ∙ length-map hubs new_lane;
    places = λ h lane hub at there.
        let x = lane_new h lane at in
        let e : x.0 ≡ hub = one_at hubs h x.0 hub x.1 there in
        let is : lane ≡ new_lane hub = sym x.2 ∙ ap new_lane e in (ap (λ (l : LaneSeen). l.tasks.hub) is, ap (λ (l : LaneSeen). l.results.hub) is);
  }

  pub team_hands : AreAllAt hubs hands
  team_hands = record {
    count = team.hands_count ∙ sym team.count;
    each = λ i hand at.
        let x = at_exists hubs i (let b = at_below hands i hand at in let p = team.hands_count in let q = team.count in omega arith) in
        (x.0, x.1, one_at hands i hand (new_hand i x.0) at (team.hands_are i x.0 x.1));
  }

  pub team_uncollected : AreUncollected lanes
  team_uncollected h lane g = let x = lane_new h lane g in ap (λ (l : LaneSeen). l.collected) (sym x.2)

  pub team_counts : (dealt lanes ≡ 0) × (taken lanes ≡ 0)
  team_counts = (
    total_none (λ l. length (dealt_to l)) lanes (λ h l g. let x = lane_new h l g in ap (λ (y : LaneSeen). length (dealt_to y)) (sym x.2)),
    total_none (λ l. length (taken_from l)) lanes (λ h l g. let x = lane_new h l g in ap (λ (y : LaneSeen). length (taken_from y)) (sym x.2)),
  )

pub nothing_dealt : (lanes : List LaneSeen) → HasDealt lanes [] []
nothing_dealt lanes = record { loads = λ i l at. absurd (let b = at_below [] i l at in omega arith); results = λ i w at. absurd (let b = at_below [] i w at in omega arith) }
