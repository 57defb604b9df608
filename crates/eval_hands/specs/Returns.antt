-- What is known of a hand that comes back.
use Rattle.par_eval.specs.Hands.{Answers, HandSeen, IsSameHand}
use Rattle.par_eval.specs.Messages.{Meaning}

-- b is the hand that a was, and where what that had said are results, so is what it said since
pub record Returns (f : Meaning) (a b : HandSeen) : Type 0 where
  pub same : IsSameHand a b
  pub answers : Answers f a → Answers f b
