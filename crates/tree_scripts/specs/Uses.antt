-- What is left of two rows in two scopes.
use Rattle.std.specs.Prelude.{◌≡◌, ℕ, Bool, List, [], ◌∷◌}
use Rattle.chunk_core.specs.declared.code.Exit.{Exit}
use Rattle.chunk_core.specs.declared.code.Exit.TheVariants.{Succeeded, Canceled}
use Rattle.chunk_core.specs.Lists.{IsAmong}
use Rattle.res_ledger.specs.declared.event.What.TheVariants.{Open, Acquire, Close, Final}
use Rattle.row_seat.specs.declared.view.View.{View}
use Rattle.scope_tree.specs.declared.branch.Spent.{Spent}
use Rattle.scope_tree.specs.Trace.{trace}

-- each was finished once with its payload, as succeeded, the child's first, and stands on the shelf with its answer
pub record IsTwo {P : Type 0} (ends : P → Exit → Bool → P → Type 0) (p q : P) (v : View P) (shelf : List (Spent P)) : Type 0 where
  pub one : Spent P
  pub other : Spent P
  pub rows : (one.row ≡ 1) × (other.row ≡ 0)
  pub exits : (one.exit ≡ Succeeded) × (other.exit ≡ Succeeded)
  pub finished : ends q Succeeded one.ok one.pay × ends p Succeeded other.ok other.pay
  pub shelf_is : shelf ≡ one ∷ other ∷ []
  pub events : trace v ≡ Open 1 0 ∷ Acquire 0 0 ∷ Acquire 1 1 ∷ Close 0 Succeeded ∷ Final 1 Succeeded one.ok ∷ Final 0 Succeeded other.ok ∷ []

-- the row r ended as canceled, and its finalizer took w
pub record IsEndedWith {P : Type 0} (ends : P → Exit → Bool → P → Type 0) (r : ℕ) (w : P) (shelf : List (Spent P)) : Type 0 where
  pub spent : Spent P
  pub on : IsAmong spent shelf
  pub row : spent.row ≡ r
  pub exit : spent.exit ≡ Canceled
  pub took : ends w Canceled spent.ok spent.pay
