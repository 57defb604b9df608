-- Where a hand is that was hired.
use Rattle.std.specs.Prelude.{◌≡◌}
use Rattle.par_eval.specs.Hands.{HandSeen}
use Rattle.par_eval.specs.Messages.{Meaning}
use Rattle.eval_hands.specs.Returns.{Returns}
use Rattle.eval_hands.specs.declared.hired.Hired.{Hired}
use Rattle.eval_hands.specs.declared.hired.Hired.TheVariants as at

-- the hand that began so is here, or on a thread, which promised to give it back
abbrev pub IsHired : {W : Type 0} → (W → Meaning) → W → HandSeen → Hired W → Type 0
IsHired result_of work first (at.Here hand) = Returns (result_of work) first hand
IsHired result_of work first (at.Away h) = (h.promise.0.value ≡ first) × (h.promise.1.value ≡ work)
