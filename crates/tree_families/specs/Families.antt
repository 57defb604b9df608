-- A main tree, and the trees of the streams whose seats it split off.
use Rattle.std.specs.Prelude.{◌≡◌, ◌⊎◌, ◌↔◌, ℕ, Bool, List}
use Rattle.chunk_core.specs.declared.code.Exit.{Exit}
use Rattle.chunk_core.specs.Lists.{IsAmong}
use Rattle.res_ledger.specs.declared.event.Event.{Event}
use Rattle.res_ledger.specs.declared.event.StreamNo.TheVariants.{Inner}
use Rattle.row_seat.specs.declared.view.View.{View}
use Rattle.row_seat.specs.Views.{next_stamp}
use Rattle.scope_tree.specs.Calls.{AtStart, Seen}
use Rattle.tree_laws.specs.Alone.{HasNoOthers}
use Rattle.tree_laws.specs.Called.{Called}
use Rattle.tree_laws.specs.Lent.{Lent}
use Rattle.tree_laws.specs.Names.{HasReturned}
use Rattle.tree_laws.specs.Visits.{Visits}

-- a seat was split off: for which stream, with which floor, and which seats were out before
pub record Split : Type 0 where
  pub stream : ℕ
  pub floor : ℕ
  pub out : List ℕ

module _ {P : Type 0} where
  -- the split of the seat of the stream j from the main seat v
  abbrev pub split_of : View P → ℕ → Split
  split_of v j = record { stream = j; floor = next_stamp v.events; out = v.out }

  module _ (ends : P → Exit → Bool → P → Type 0) where
    -- the seat of the stream j, with the floor n, came back to the main tree b with all that its tree noted, and b had made the lease that this tree cancelled
    pub record CameBack (b : Seen P) (j n : ℕ) : Type 0 where
      pub returned : HasReturned b.seat j
      pub rows : List ℕ
      pub last : Seen P
      pub visit : Visits ends j n rows last
      pub lent : Lent b.seat j rows
      pub own : (e : Event) → e.by ≡ Inner j → IsAmong e b.seat.events ↔ IsAmong e last.seat.events

    -- b has been a main tree since its start, which cancelled no lease but its own, and ms are the seats that it split off, in order: each is out or came back
    pub record IsFamily (b : Seen P) (ms : List Split) : Type 0 where
      pub first : Seen P
      pub start : AtStart first.seat
      pub alone : HasNoOthers first.seat
      pub cancelled : List (ℕ × List ℕ)
      pub calls : Called ends first cancelled b
      pub lent : (j : ℕ) (T : List ℕ) → IsAmong (j, T) cancelled → Lent b.seat j T
      pub listed : (j : ℕ) → IsAmong j b.seat.had → (m : Split) × IsAmong m ms × (m.stream ≡ j)
      pub met : (m : Split) → IsAmong m ms → IsAmong m.stream b.seat.out ⊎ CameBack b m.stream m.floor
