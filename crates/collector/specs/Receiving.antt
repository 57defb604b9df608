-- What the collector's calls do with what it receives.
use Rattle.std.specs.Prelude.{◌≡◌, ◌≢◌, ◌⊎◌, ℕ, suc, ◌<◌, List, [], ◌∷◌, ◌++◌, Some, slice_get}
use Rattle.chunk_core.specs.Lists.{IsAmong}
use Rattle.channel_bounded.specs.Ends.{ReceiverSeen, ReceiverSees}
use Rattle.channel_bounded.specs.declared.message.Msg.{Msg}
use Rattle.interrupt_ctx.specs.Views.{interruption}
use Rattle.interrupt_ctx.specs.declared.view.Interruption.{Interruption}
use Rattle.interrupt_ctx.specs.declared.why.Stop.{Stop}
use Rattle.interrupt_ctx.specs.declared.why.Why.TheVariants as why
use Rattle.join_report.specs.Stopping.{Learns}
use Rattle.join_report.specs.declared.stops.Stops.{Stops}
use Rattle.pipeline_desc.specs.Meant.{PlanMeant}
use Rattle.pipeline_desc.specs.declared.stream.StreamSpec.{StreamSpec}
use Rattle.stream_jobs.specs.declared.job.Job.{Job}
use Rattle.collector.specs.Filled.{AreFilled}

-- m came behind all that the receiver had got
pub record HasGot (had : ReceiverSeen) (m : Msg) (r : ReceiverSeen) : Type 0 where
  pub is : r ≡ record had { got = had.got ++ m ∷ [] }
  pub rest : List Msg
  pub sees : ReceiverSees AreFilled had (m ∷ rest)

-- the job of stream k was taken out of the open ones, of which those behind it stand first now
pub record TakesOut {S V F D T : Type 0} (k : ℕ) (old new : List (Job S V F V D T)) (j : Job S V F V D T) : Type 0 where
  pub number : j.sender.stream ≡ k
  pub before : List (Job S V F V D T)
  pub behind : List (Job S V F V D T)
  pub old_is : old ≡ before ++ j ∷ behind
  pub new_is : new ≡ behind ++ before

-- the first open job isn't that of stream k, and went behind the others
pub record GoesBehind {S V F D T : Type 0} (k : ℕ) (old new : List (Job S V F V D T)) : Type 0 where
  pub job : Job S V F V D T
  pub rest : List (Job S V F V D T)
  pub other : job.sender.stream ≢ k
  pub old_is : old ≡ job ∷ rest
  pub new_is : new ≡ rest ++ job ∷ []

-- stream i of the plan is to end with stream k
abbrev pub EndsWith : PlanMeant → ℕ → ℕ → Type 0
EndsWith p k i = (s : StreamSpec) × (slice_get p.streams i ≡ Some s) × (s.until ≡ Some k)

-- what interrupts a stream that is to end with another one, behind n events of the ledger
abbrev pub until_at : ℕ → Stop
until_at n = record { why = why.Until; at = n }

-- stream i was interrupted behind n events of the ledger, or found interrupted, if it is to end with stream k, and no other one was
pub record StopsOne (p : PlanMeant) (k i n : ℕ) (old new : Stops) : Type 0 where
  pub set : List Interruption
  pub seen : List Interruption
  pub learns : Learns old new set seen
  pub only : (context : ℕ) (w : Stop) → IsAmong (interruption context w) set → (w ≡ until_at n) × (context ≡ suc i) × EndsWith p k i
  pub known : EndsWith p k i → (w : Stop) × (IsAmong (interruption (suc i) w) set ⊎ IsAmong (interruption (suc i) w) seen)

-- each of the first `count` streams that is to end with stream k was interrupted behind n events of the ledger, or found interrupted, and no other one was
pub record StopsThose (p : PlanMeant) (k count n : ℕ) (old new : Stops) : Type 0 where
  pub set : List Interruption
  pub seen : List Interruption
  pub learns : Learns old new set seen
  pub only : (context : ℕ) (w : Stop) → IsAmong (interruption context w) set → (w ≡ until_at n) × ((i : ℕ) × (context ≡ suc i) × EndsWith p k i)
  pub each : (i : ℕ) → i < count → EndsWith p k i → (w : Stop) × (IsAmong (interruption (suc i) w) set ⊎ IsAmong (interruption (suc i) w) seen)
