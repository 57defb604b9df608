-- What is read of a description.
use Rattle.std.specs.Prelude.{◌≡◌, ℕ, true, false, List, Option, Some, None, Result, Ok, Err}
use Rattle.device_port.specs.Source.{SourceTold}
use Rattle.pipeline_desc.specs.Meant.{PlanMeant}
use Rattle.pipeline_desc.specs.Plans.{plan_of}
use Rattle.flume_cli.specs.declared.status.Status.{Status}
use Rattle.flume_cli.specs.declared.status.Status.TheVariants as status
use Rattle.flume_cli.specs.Input.{IsInput, TakesSome}

-- the plan, with as many streams open at a time as the words tell
abbrev pub with_most : Option ℕ → PlanMeant → PlanMeant
with_most None plan = plan
with_most (Some most) plan = record plan { max_open = most }

-- the plan that these bytes mean, or the status of a call whose description is refused or found no memory
abbrev pub GivesPlan : List ℕ → Result PlanMeant Status → Type 0
GivesPlan bytes (Ok plan) = plan_of bytes ≡ Ok plan
GivesPlan bytes (Err (status.Refused refusal)) = plan_of bytes ≡ Err refusal
GivesPlan bytes (Err status.Memory) = Unit {0}
GivesPlan bytes (Err s) = ⊥

-- the source was read whole, and this is said of what it gave
abbrev pub ReadsInput : SourceTold → SourceTold → (List ℕ → Type 0) → Type 0
ReadsInput old new Says = (bytes : List ℕ) × IsInput old new bytes × Says bytes

-- the plan of what the source gave, or the status of a call that has none
abbrev pub ReadsPlan : SourceTold → SourceTold → Result PlanMeant Status → Type 0
ReadsPlan old new (Ok plan) = ReadsInput old new (λ bytes. plan_of bytes ≡ Ok plan)
ReadsPlan old new (Err (status.Refused refusal)) = ReadsInput old new (λ bytes. plan_of bytes ≡ Err refusal)
ReadsPlan old new (Err status.Memory) = TakesSome false old new
ReadsPlan old new (Err status.Unread) = TakesSome true old new
ReadsPlan old new (Err s) = ⊥
