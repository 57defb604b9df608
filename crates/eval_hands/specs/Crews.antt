-- What a crew has dealt and taken.
use Rattle.std.specs.Prelude.{◌≡◌, ℕ, ◌+◌, ◌<◌, List, None, length}
use Rattle.chunk_core.specs.Totals.{IsAt}
use Rattle.chunk_core.specs.declared.load.Load.{Load}
use Rattle.par_eval.specs.Dealers.{IsDealerAt, IsDealt, IsTaken, LaneSeen, dealt, new_hand, taken}
use Rattle.par_eval.specs.Hands.{HandSeen}
use Rattle.par_eval.specs.Lanes.{LaneHubs}
use Rattle.par_eval.specs.Messages.{Meaning}
use Rattle.par_eval.specs.declared.work.Worked.{Worked}
use Rattle.eval_hands.specs.Hiring.{IsHired}
use Rattle.eval_hands.specs.declared.crew.Crew.{Crew}
use Rattle.eval_hands.specs.declared.hired.Hired.{Hired}

-- these loads were dealt and these results taken, in order
pub record HasDealt (lanes : List LaneSeen) (ds : List Load) (ws : List Worked) : Type 0 where
  pub loads : (i : ℕ) (l : Load) → IsAt ds i l → IsDealt lanes i l
  pub results : (i : ℕ) (w : Worked) → IsAt ws i w → IsTaken lanes i w

-- no hand was taken in
abbrev pub AreUncollected : List LaneSeen → Type 0
AreUncollected lanes = (h : ℕ) (lane : LaneSeen) → IsAt lanes h lane → lane.collected ≡ None

-- each of them is the new hand of its queues
pub record AreAllAt (hubs : List LaneHubs) (hands : List HandSeen) : Type 0 where
  pub count : length hands ≡ length hubs
  pub each : (i : ℕ) (hand : HandSeen) → IsAt hands i hand → (hub : LaneHubs) × IsAt hubs i hub × (hand ≡ new_hand i hub)

module _ {W : Type 0} (result_of : W → Meaning) (work : W) (hubs : List LaneHubs) where
  -- the hand number i was hired, as the new hand of its queues
  abbrev pub IsHiredAt : ℕ → Hired W → Type 0
  IsHiredAt i h = (hub : LaneHubs) × IsAt hubs i hub × IsHired result_of work (new_hand i hub) h

  -- these are the first hands, which were hired
  abbrev pub AreHiredFirst : List (Hired W) → Type 0
  AreHiredFirst hired = (i : ℕ) (h : Hired W) → IsAt hired i h → IsHiredAt i h

  -- all hands were hired
  pub record AreHired (hired : List (Hired W)) : Type 0 where
    pub count : length hired ≡ length hubs
    pub each : AreHiredFirst hired

  -- the crew has dealt these loads and taken these results
  pub record IsCrew (c : Crew W) (ds : List Load) (ws : List Worked) : Type 0 where
    pub at : IsDealerAt hubs c.dealer.lanes
    pub some : 0 < length c.dealer.lanes
    pub goes_on : c.dealer.ended ≡ None
    pub uncollected : AreUncollected c.dealer.lanes
    pub hired : AreHired c.hands.items
    pub has : HasDealt c.dealer.lanes ds ws
    pub loads : dealt c.dealer.lanes ≡ length ds
    pub results : taken c.dealer.lanes ≡ length ws
    pub count : length ws + c.dealer.out ≡ length ds
