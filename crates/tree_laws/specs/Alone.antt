-- A tree that only opens, acquires, writes and closes.
use Rattle.std.specs.Prelude.{◌≡◌, ◌⊎◌, List, true, []}
use Rattle.chunk_core.specs.Lists.{IsAmong}
use Rattle.res_ledger.specs.declared.event.Event.{Event}
use Rattle.res_ledger.specs.Own.{leased_of}
use Rattle.row_seat.specs.declared.view.View.{View}

-- M has no Lease that L hasn't
abbrev pub HasNoMoreLeases : List Event → List Event → Type 0
HasNoMoreLeases L M = (e : Event) → IsAmong e M → IsAmong e L ⊎ (leased_of e.what ≡ [])

module _ {P : Type 0} where
  -- from v to w no lease and no seat came or went, and each new event is in the seat's own name and isn't a Lease
  pub record StaysAlone (v w : View P) : Type 0 where
    pub by : w.by ≡ v.by
    pub main : w.main ≡ v.main
    pub pairs : w.pairs ≡ v.pairs
    pub kept : w.kept ≡ v.kept
    pub had : w.had ≡ v.had
    pub out : w.out ≡ v.out
    pub events : (e : Event) → IsAmong e w.events → IsAmong e v.events ⊎ ((e.by ≡ w.by) × (leased_of e.what ≡ []))

  -- it is a main seat without leases, which gave no seat
  pub record HasNoOthers (v : View P) : Type 0 where
    pub main : v.main ≡ true
    pub pairs : v.pairs ≡ []
    pub kept : v.kept ≡ []
    pub had : v.had ≡ []
    pub out : v.out ≡ []
