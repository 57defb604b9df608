-- What the events of a main tree tell.
use Rattle.std.specs.Prelude.{◌≡◌, ◌⊎◌, ◌↔◌, ℕ, zero, suc, ◌<◌, ◌≤◌, Bool, true, false, List, length, Some}
use Rattle.chunk_core.specs.declared.code.Exit.{Exit}
use Rattle.chunk_core.specs.declared.code.Exit.TheVariants.{Canceled}
use Rattle.chunk_core.specs.Lists.{IsAmong}
use Rattle.res_ledger.specs.declared.event.Event.{Event}
use Rattle.res_ledger.specs.declared.event.StreamNo.{StreamNo}
use Rattle.res_ledger.specs.declared.event.StreamNo.TheVariants.{Inner, Outer}
use Rattle.res_ledger.specs.declared.event.What.{What}
use Rattle.res_ledger.specs.declared.event.What.TheVariants.{Acquire, Cancel, Close, Final, Lease}
use Rattle.res_ledger.specs.Ledger.{Notes}
use Rattle.scope_tree.specs.Calls.{Seen}
use Rattle.tree_families.specs.Families.{Split}
use Rattle.tree_families.specs.Pace.{NotesBelow}
use Rattle.join_tree.specs.Progress.{Progress}

-- what the outer stream may note of its tables: no Lease, no Cancel and no Close of its root
abbrev pub is_table_note : What → Bool
is_table_note (Lease j s) = false
is_table_note (Cancel j x) = false
is_table_note (Close zero x) = false
is_table_note w = true

-- the outer stream acquires rows in their order
abbrev pub RowsRise : List Event → Type 0
RowsRise L = (e f : Event) (r s q t : ℕ) → IsAmong e L → IsAmong f L → e.by ≡ Outer → f.by ≡ Outer → e.what ≡ Acquire r s → f.what ≡ Acquire q t → f.stamp < e.stamp → q < r

-- in which order the outer stream acquired rows and leased, and how far it was ahead
pub record GivesInPace (width : ℕ) (L : List Event) : Type 0 where
  pub rise : RowsRise L
  -- Leases stand in the order of their streams, behind the Acquires of the root's rows
  pub order : (e f : Event) (i j s t : ℕ) → IsAmong e L → IsAmong f L → e.what ≡ Lease i s → f.what ≡ Lease j t → i < j → e.stamp < f.stamp
  pub behind : (e f : Event) (r j s : ℕ) → IsAmong e L → IsAmong f L → e.by ≡ Outer → e.what ≡ Acquire r 0 → f.what ≡ Lease j s → e.stamp < f.stamp
  -- at each Lease the streams below its own had their Cancels, but for `width` at most
  pub waits : (e : Event) (j s : ℕ) → IsAmong e L → e.what ≡ Lease j s → (is : List ℕ) × (length is ≤ width) × ((i : ℕ) → i < j → IsAmong i is ⊎ ((k : StreamNo) × (x : Exit) × NotesBelow e.stamp L k (Cancel i x)))

module _ {P : Type 0} (p : Progress P) where
  -- what the outer stream may have noted: Leases of its scopes for the streams below `leased`, Cancels of streams that were dealt with, as canceled, the Close of its root with the exit that is told, Finals of its tables' rows, and what else it noted of its tables
  abbrev pub IsOuterNote : What → Type 0
  IsOuterNote (Lease j s) = j < p.leased
  IsOuterNote (Cancel j x) = (x ≡ Canceled) × (j < p.next)
  IsOuterNote (Close zero x) = p.root ≡ Some x
  IsOuterNote (Close (suc s) x) = IsAmong (Close (suc s) x) p.tables
  IsOuterNote (Final r x ok) = (s : ℕ) × IsAmong (Acquire r s) p.tables
  IsOuterNote w = IsAmong w p.tables

  -- the seat of the stream j was split off
  abbrev pub IsBegun : ℕ → Type 0
  IsBegun j = (m : Split) × IsAmong m p.splits × (m.stream ≡ j)

  -- what the events L tell of a main tree that is as far as p
  pub record IsTold (L : List Event) : Type 0 where
    -- what the outer stream noted, and that no other noted a Lease
    pub outer : (w : What) → Notes L Outer w → IsOuterNote w
    pub lessor : (k : StreamNo) (j s : ℕ) → Notes L k (Lease j s) → k ≡ Outer
    -- it acquired the rows of its root that are told, leased one of its scopes for each stream below `leased`, and closed its root as is told
    pub acquired : (r : ℕ) → IsAmong (Acquire r 0) p.tables → Notes L Outer (Acquire r 0)
    pub leases : (j : ℕ) → j < p.leased → (s : ℕ) × Notes L Outer (Lease j s)
    pub root : (x : Exit) → p.root ≡ Some x → Notes L Outer (Close 0 x)
    -- of the streams that were dealt with it cancelled those that weren't begun, and no others
    pub dealt : (j : ℕ) → j < p.next → IsBegun j ⊎ Notes L Outer (Cancel j Canceled)
    pub skipped : (j : ℕ) (x : Exit) → Notes L Outer (Cancel j x) → ¬ (IsBegun j)
    -- each other event is of a stream whose tree came back, and is one that the tree noted
    pub whose : (e : Event) → IsAmong e L → (e.by ≡ Outer) ⊎ ((y : Seen P) × IsAmong y p.back × (e.by ≡ y.seat.by))
    pub own : (y : Seen P) → IsAmong y p.back → (e : Event) → e.by ≡ y.seat.by → IsAmong e L ↔ IsAmong e y.seat.events
    pub back : (y : Seen P) → IsAmong y p.back → (j : ℕ) × (y.seat.by ≡ Inner j) × IsBegun j
