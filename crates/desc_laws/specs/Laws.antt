-- What holds of every description.
use Rattle.std.specs.Prelude.{◌≡◌, ◌↔◌, ℕ, List, Ok, Err}
use Rattle.pipeline_desc.specs.Meant.{PlanMeant}
use Rattle.pipeline_desc.specs.Plans.{plan_of}
use Rattle.pipeline_desc.specs.declared.refusal.Refusal.{Refusal}
use Rattle.desc_laws.specs.First.{IsFirst, NoneOf}
use Rattle.desc_laws.specs.Has.{HasFlaw, flaws_of}
use Rattle.desc_laws.specs.Says.{SaysPlan}

-- a description is refused for r exactly where r is told of its first flaw
abbrev pub IsRefusedForTheFirst : Type 0
IsRefusedForTheFirst = (bytes : List ℕ) (r : Refusal) → (plan_of bytes ≡ Err r) ↔ IsFirst (HasFlaw bytes) (flaws_of bytes) r

-- a description is a plan exactly where it has no flaw
abbrev pub IsAcceptedWithoutFlaws : Type 0
IsAcceptedWithoutFlaws = (bytes : List ℕ) → ((p : PlanMeant) × (plan_of bytes ≡ Ok p)) ↔ NoneOf (HasFlaw bytes) (flaws_of bytes)

-- the plan of a description is what its keys say
abbrev pub PlanIsWhatKeysSay : Type 0
PlanIsWhatKeysSay = (bytes : List ℕ) (p : PlanMeant) → plan_of bytes ≡ Ok p → SaysPlan bytes p
