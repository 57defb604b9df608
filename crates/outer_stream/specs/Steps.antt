-- What calls of the main tree keep that open or close a child scope, or read tables there.
use Rattle.std.specs.Prelude.{◌≡◌, ℕ, zero, suc, ◌≤◌, Bool, List, None}
use Rattle.chunk_core.specs.declared.code.Exit.{Exit}
use Rattle.chunk_core.specs.Lists.{IsAmong}
use Rattle.device_port.specs.Device.{DeviceTold}
use Rattle.join_tree.specs.Given.{GivesMore}
use Rattle.join_tree.specs.Mains.{IsMain}
use Rattle.join_tree.specs.Progress.{Progress, reading}
use Rattle.join_tree.specs.Steps.{KeepsGuests, KeepsRows, TakesEvents}
use Rattle.pull_stepper.specs.Held.{FinishesDevice}
use Rattle.res_ledger.specs.declared.event.What.{What}
use Rattle.scope_tree.specs.Calls.{Seen, TakesRoom}
use Rattle.tree_laws.specs.Lent.{Lent}

-- no seat went out or came in, no lease was lost, and no right to an empty row but to those below t
pub record KeepsOthers {P : Type 0} (t : ℕ) (a b : Seen P) : Type 0 where
  pub out : b.seat.out ≡ a.seat.out
  pub splits : b.seat.splits ≡ a.seat.splits
  pub empty : (r : ℕ) → t ≤ r → IsAmong r a.seat.empty → IsAmong r b.seat.empty
  pub lent : (j : ℕ) (T : List ℕ) → Lent a.seat j T → Lent b.seat j T

-- one child scope is opened for a part that has one
abbrev pub children : ℕ → ℕ
children zero = 0
children (suc s) = 1

module _ {V : Type 0} (told : V → DeviceTold) where
  abbrev pub ends : V → Exit → Bool → V → Type 0
  ends = FinishesDevice told

  -- the main tree noted E, and is so much further; so many scopes were opened, and so many events fewer may be noted beyond those that are owed
  pub record Steps (E : List What) (scopes spent : ℕ) (a b : Seen V) : Type 0 where
    pub main : (width n : ℕ) (q : Progress V) → IsMain ends width n a q → q.root ≡ None → IsMain ends width n b (reading q E)
    pub gives : GivesMore E a b
    pub guests : KeepsGuests a b
    pub rows : KeepsRows a.seat b.seat
    pub events : TakesEvents spent a b
    pub room : TakesRoom scopes 0 a b
