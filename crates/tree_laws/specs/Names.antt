-- Whose events a seat has, and where they stand.
use Rattle.std.specs.Prelude.{◌≡◌, ◌≢◌, ◌⊎◌, ℕ, ◌≤◌}
use Rattle.chunk_core.specs.Lists.{IsAmong}
use Rattle.res_ledger.specs.declared.event.Event.{Event}
use Rattle.res_ledger.specs.declared.event.StreamNo.TheVariants.{Inner}
use Rattle.row_seat.specs.declared.view.View.{View}

module _ {P : Type 0} where
  -- the stream j had a seat, which isn't out, and is another than this one
  abbrev pub HasReturned : View P → ℕ → Type 0
  HasReturned v j = IsAmong j v.had × ¬ (IsAmong j v.out) × (v.by ≢ Inner j)

  -- each event is in the seat's own name or in that of a seat that it took in
  abbrev pub IsNamed : View P → Type 0
  IsNamed v = (e : Event) → IsAmong e v.events → (e.by ≡ v.by) ⊎ ((j : ℕ) × (e.by ≡ Inner j) × HasReturned v j)

  -- no event in its own name has a stamp below its floor
  abbrev pub IsFloored : View P → Type 0
  IsFloored v = (e : Event) → IsAmong e v.events → e.by ≡ v.by → v.floor ≤ e.stamp
