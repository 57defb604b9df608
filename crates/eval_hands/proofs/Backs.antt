-- A hand that comes back, and comes back again.
use Rattle.std.proofs.Common.{List, refl, sym, subst, ◌∙◌}
use Rattle.chunk_core.specs.Totals.{IsAt}
use Rattle.par_eval.specs.Lanes.{LaneHubs}
use Rattle.par_eval.specs.Hands.{HandSeen, IsHandAt, IsSameHand}
use Rattle.par_eval.specs.Messages.{Meaning}
use Rattle.eval_hands.specs.Returns.{Returns}

pub returns_same : (f : Meaning) (a : HandSeen) → Returns f a a
returns_same f a = record { same = record { number = refl; tasks = refl; results = refl }; answers = λ x. x }

pub returns_then : (f : Meaning) (a b c : HandSeen) → Returns f a b → Returns f b c → Returns f a c
returns_then f a b c r s = record {
  same = record { number = s.same.number ∙ r.same.number; tasks = s.same.tasks ∙ r.same.tasks; results = s.same.results ∙ r.same.results };
  answers = λ x. s.answers (r.answers x);
}

-- a hand that comes back is at its lane still
pub hand_stays : (hubs : List LaneHubs) (a b : HandSeen) → IsSameHand a b → IsHandAt hubs a → IsHandAt hubs b
hand_stays hubs a b s h = record {
  lane = h.lane;
  place = subst (λ n. IsAt hubs n h.lane) (sym s.number) h.place;
  tasks = s.tasks ∙ h.tasks;
  results = s.results ∙ h.results;
}
