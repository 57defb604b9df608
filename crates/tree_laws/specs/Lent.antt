-- The leases that a tree made.
use Rattle.std.specs.Prelude.{◌≡◌, ℕ, List, ◌∷◌, ◌++◌}
use Rattle.res_ledger.specs.declared.event.Event.{Event}
use Rattle.res_ledger.specs.declared.event.What.TheVariants.{Lease}
use Rattle.res_ledger.specs.Own.{leased_rows, own}
use Rattle.row_seat.specs.declared.view.View.{View}

-- the seat's stream noted a Lease for j, which covers the rows T
pub record Lent {P : Type 0} (v : View P) (j : ℕ) (T : List ℕ) : Type 0 where
  pub before : List Event
  pub event : Event
  pub rest : List Event
  pub scope : ℕ
  pub stands : v.events ≡ before ++ event ∷ rest
  pub by : event.by ≡ v.by
  pub what : event.what ≡ Lease j scope
  pub rows : T ≡ leased_rows (own v.by before) scope
