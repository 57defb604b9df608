-- What a job's seat at the board has set and seen.
use Rattle.std.specs.Prelude.{◌≡◌, ◌⊎◌, ℕ, ◌+◌, false, [], Option, Some, None}
use Rattle.chunk_core.specs.Lists.{IsAmong}
use Rattle.chunk_core.specs.declared.code.How.{How}
use Rattle.chunk_core.specs.declared.code.How.TheVariants as how
use Rattle.interrupt_ctx.specs.Ends.{SeatSeen}
use Rattle.interrupt_ctx.specs.Views.{Knows, interruption}
use Rattle.interrupt_ctx.specs.declared.view.Interruption.{Interruption}
use Rattle.interrupt_ctx.specs.declared.view.View.{View}
use Rattle.interrupt_ctx.specs.declared.why.Stop.{Stop}
use Rattle.interrupt_ctx.specs.declared.why.Why.{Why}
use Rattle.interrupt_ctx.specs.declared.why.Why.TheVariants as why

-- the whole run is interrupted: the seat has set that for this cause and nothing else, or it has found a code there
pub record HasStoppedRun (v : View) (cause : Why) : Type 0 where
  pub only : (x : Interruption) → IsAmong x v.set → (x.context ≡ 0) × (x.stop.why ≡ cause)
  pub known : (there : Stop) × Knows v 0 there

-- the seat has set nothing, and found a code in context 0 or in that of stream k
pub record HasFoundCode (k : ℕ) (v : View) : Type 0 where
  pub none : v.set ≡ []
  pub found : (there : Stop) × (IsAmong (interruption 0 there) v.seen ⊎ IsAmong (interruption (1 + k) there) v.seen)

-- what the seat of stream k has set, and what it knows, by how the stepper has ended, if it has
abbrev pub HasSetFor : ℕ → View → Option How → Type 0
HasSetFor k v None = v.set ≡ []
HasSetFor k v (Some how.Done) = v.set ≡ []
HasSetFor k v (Some how.Halted) = HasFoundCode k v
HasSetFor k v (Some (how.Fault c)) = HasStoppedRun v why.Fault
HasSetFor k v (Some how.Memory) = HasStoppedRun v why.Memory

-- the seat is as at first, and has learned since what its stream k, which has ended so, if it has, was to learn and to set
pub record HasLearned (k : ℕ) (old new : SeatSeen) (ended : Option How) : Type 0 where
  pub board : new.board ≡ old.board
  pub first : new.view.first ≡ false
  pub kept : (x : Interruption) → IsAmong x old.view.seen → IsAmong x new.view.seen
  pub set : HasSetFor k new.view ended
