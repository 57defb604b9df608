-- What a stream leaves.
use Rattle.std.specs.Prelude.{◌≡◌, ℕ, ◌+◌, ◌≤◌, nat_eq, List, length}
use Rattle.std.specs.List.{IsDistinct}
use Rattle.chunk_core.specs.Outcomes.{exit_of}
use Rattle.chunk_core.specs.declared.code.How.{How}
use Rattle.device_port.specs.Device.{DeviceTold}
use Rattle.tree_families.specs.Leaving.{LeavesLast}
use Rattle.res_ledger.specs.declared.event.What.TheVariants.{Acquire}
use Rattle.res_ledger.specs.Ledger.{IsFinalized, Notes}
use Rattle.res_ledger.specs.Order.{firsts}
use Rattle.row_seat.specs.declared.view.View.{View}
use Rattle.scope_tree.specs.declared.branch.Spent.{Spent}
use Rattle.scope_tree.specs.Calls.{Cancels, Seen}
use Rattle.scope_tree.specs.Released.{said}
use Rattle.tree_laws.specs.Visits.{HasNothingOpen, IsNewGuest, Visits}
use Rattle.pull_stepper.specs.Held.{FinishesDevice}
use Rattle.pull_stepper.specs.Sites.{Since, Site, around}
use Rattle.pull_stepper.specs.Stepping.{StepperEnds, Stepping}

module _ {V : Type 0} (told : V → DeviceTold) where
  -- there is room for the Cancel of a lease on the rows T, and for the end of each of these
  pub record CanLeave (T : List ℕ) (x : Site V) : Type 0 where
    pub events : 1 + length T ≤ (around told x).events
    pub rows : length T ≤ (around told x).rows

  -- since x, where the seat of stream k had just been split off with a lease on the rows T, only the stepper did anything
  pub record IsVisiting (k : ℕ) (T : List ℕ) (x y : Site V) : Type 0 where
    pub guest : IsNewGuest x.tree.seat k x.tree.seat.floor T
    pub since : Since told (FinishesDevice told) x y

  -- The stepper's tree and devices came apart as it stood last, where each row that it acquired had ended; then its tree cancelled the lease, as the stepper had ended, and was all
  -- that it was to be: the visit of stream k, at whose end nothing is open and no row stands on the shelf twice, and which closed its root before it left.
  pub record Leaves {F : Type 0} (k : ℕ) (T : List ℕ) (x : Site V) (s : Stepping V F) (seat : View V) (shelf : List (Spent V)) (unopened : List V) (h : How) : Type 0 where
    pub ended : StepperEnds told s s.site.tree h unopened
    pub finalized : (r q : ℕ) → Notes s.site.tree.seat.events s.site.tree.seat.by (Acquire r q) → IsFinalized s.site.tree.seat.events r
    pub last : Seen V
    pub cancels : Cancels (FinishesDevice told) s.site.tree k T (exit_of h) last
    pub seat_is : seat ≡ last.seat
    pub shelf_is : shelf ≡ last.shelf
    pub once : IsDistinct nat_eq (firsts (said shelf))
    pub visit : Visits (FinishesDevice told) k x.tree.seat.floor T last
    pub rest : HasNothingOpen last.seat
    pub leaves : LeavesLast last
