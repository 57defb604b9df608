-- A seat that has noted some scopes.
use Rattle.std.specs.Prelude.{◌≡◌, ℕ, ◌-◌, ◌≤◌, List}
use Rattle.chunk_core.specs.Lists.{IsAmong}
use Rattle.res_ledger.specs.declared.event.Event.{Event}
use Rattle.res_ledger.specs.declared.event.StreamNo.{StreamNo}
use Rattle.res_ledger.specs.declared.event.What.TheVariants.{Open}
use Rattle.res_ledger.specs.Ledger.{Notes}
use Rattle.row_seat.specs.declared.view.View.{View}

-- the scopes 1 to n, each opened by k under the root, and nothing else
pub record HasScopes (E : List Event) (k : StreamNo) (n : ℕ) : Type 0 where
  pub only : (e : Event) → IsAmong e E → (s : ℕ) × (s ≤ n) × (e.what ≡ Open s 0)
  pub each : (s : ℕ) → 1 ≤ s → s ≤ n → Notes E k (Open s 0)

-- the seat noted E and nothing else, for n of its events
abbrev pub after_scopes : {P : Type 0} → View P → List Event → ℕ → View P
after_scopes v E n = record v { events = E; spare = v.spare - n }
