-- What holds of a main tree with the seats that it split off, and of its ledger once all came back.
use Rattle.std.specs.Prelude.{◌≡◌, ◌≢◌, ◌⊎◌, ℕ, ◌<◌, Bool, false, List, [], ◌∷◌, ◌++◌}
use Rattle.chunk_core.specs.declared.code.Exit.{Exit}
use Rattle.chunk_core.specs.Lists.{IsAmong}
use Rattle.res_ledger.specs.declared.event.Event.{Event}
use Rattle.res_ledger.specs.declared.event.StreamNo.TheVariants.{Inner, Outer}
use Rattle.res_ledger.specs.declared.event.What.TheVariants.{Lease}
use Rattle.res_ledger.specs.Ledger.{Notes, NotesCancel}
use Rattle.res_ledger.specs.Order.{firsts}
use Rattle.row_seat.specs.declared.view.View.{View}
use Rattle.row_seat.specs.Views.{AreApart, CanFinish, CanJoin, CanSplit, IsLedgerOf, joined, split_main}
use Rattle.scope_tree.specs.Calls.{AtStart, Cancels, IsClosedScope, Seen}
use Rattle.scope_tree.specs.Released.{said}
use Rattle.tree_laws.specs.Alone.{HasNoOthers}
use Rattle.tree_laws.specs.Called.{Called}
use Rattle.tree_laws.specs.Lent.{Lent}
use Rattle.tree_laws.specs.Visits.{HasNothingOpen, Visits}
use Rattle.tree_laws.specs.Whole.{IsWholeLedger}
use Rattle.tree_families.specs.Families.{CameBack, IsFamily, Split, split_of}
use Rattle.res_ledger.specs.Whole.{is_cancel}
use Rattle.run_rules.specs.Facts.{has_event}
use Rattle.run_rules.specs.Pace.{BeginInOrder, LeasesAhead, WithinWidth}
use Rattle.tree_families.specs.Pace.{IsInPace}
use Rattle.tree_families.specs.Leaving.{LeavesLast}

module _ {P : Type 0} (ends : P → Exit → Bool → P → Type 0) where
  -- how a family begins, and what keeps it one
  pub record FamilyGrows : Type 0 where
    pub starts : (a : Seen P) → AtStart a.seat → HasNoOthers a.seat → IsFamily ends a []
    -- calls without a split and a join, which cancel no lease but those that the tree made
    pub calls : (b c : Seen P) (ms : List Split) (Ds : List (ℕ × List ℕ)) → IsFamily ends b ms → Called ends b Ds c → c.seat.had ≡ b.seat.had → c.seat.out ≡ b.seat.out → ((j : ℕ) (T : List ℕ) → IsAmong (j, T) Ds → Lent b.seat j T) → IsFamily ends c ms
    pub splits : (b c : Seen P) (ms : List Split) (j from to n : ℕ) → IsFamily ends b ms → CanSplit b.seat j from to n → c ≡ record b { seat = split_main b.seat j from to n } → IsFamily ends c (ms ++ split_of b.seat j ∷ [])
    pub joins : (b c y : Seen P) (ms : List Split) (j : ℕ) (T : List ℕ) → IsFamily ends b ms → CanJoin b.seat y.seat → AreApart b.seat y.seat → c ≡ record b { seat = joined b.seat y.seat } → ((m : Split) → IsAmong m ms → m.stream ≡ j → Visits ends j m.floor T y) → y.seat.by ≡ Inner j → Lent b.seat j T → IsFamily ends c ms
    -- what the main seat had before a split stands below the floor of the new seat
    pub floors : (v : View P) (j : ℕ) (e : Event) → IsAmong e v.events → e.stamp < (split_of v j).floor

  -- once the root is closed and all seats are back, the finished ledger is legal, complete and in order
  abbrev pub FamilyIsWhole : Type 0
  FamilyIsWhole = (b : Seen P) (ms : List Split) (L : List Event) → IsFamily ends b ms → b.seat.out ≡ [] → IsClosedScope b 0 → IsLedgerOf b.seat L → IsWholeLedger L

  -- where all trees of a family began with an empty shelf, no row stands on two of their shelves: not on the main tree's and on that of one whose seat came back, and not on those of two that came back
  pub record ShelvesOfFamily : Type 0 where
    pub main : (b : Seen P) (ms : List Split) (L : List Event) (j n : ℕ) (f : IsFamily ends b ms) (t : CameBack ends b j n) → IsLedgerOf b.seat L → f.first.shelf ≡ [] → t.visit.first.shelf ≡ [] → (r : ℕ) → IsAmong r (firsts (said b.shelf)) → ¬ (IsAmong r (firsts (said t.last.shelf)))
    pub back : (b : Seen P) (L : List Event) (i j m n : ℕ) (s : CameBack ends b i m) (t : CameBack ends b j n) → i ≢ j → IsLedgerOf b.seat L → s.visit.first.shelf ≡ [] → t.visit.first.shelf ≡ [] → (r : ℕ) → IsAmong r (firsts (said s.last.shelf)) → ¬ (IsAmong r (firsts (said t.last.shelf)))

  -- where each seat was split off in pace, the leases of a finished ledger are ahead, it is within the width, and its streams begin in their order; and a stream that hadn't left before an event of a later one was out when the seat of that was split off
  pub record FamilyIsPaced : Type 0 where
    pub ahead : (b : Seen P) (ms : List Split) (L : List Event) (width : ℕ) → IsFamily ends b ms → b.seat.by ≡ Outer → b.seat.out ≡ [] → IsLedgerOf b.seat L → ((m : Split) → IsAmong m ms → IsInPace width b.seat.events Outer ms m) → LeasesAhead L
    pub within : (b : Seen P) (ms : List Split) (L : List Event) (width n : ℕ) → IsFamily ends b ms → b.seat.by ≡ Outer → b.seat.out ≡ [] → IsLedgerOf b.seat L → ((m : Split) → IsAmong m ms → IsInPace width b.seat.events Outer ms m) → WithinWidth width n L
    pub begins : (b : Seen P) (ms : List Split) (L : List Event) (width : ℕ) → IsFamily ends b ms → b.seat.by ≡ Outer → b.seat.out ≡ [] → IsLedgerOf b.seat L → ((m : Split) → IsAmong m ms → IsInPace width b.seat.events Outer ms m) → BeginInOrder width L
    pub room : (b : Seen P) (ms : List Split) (L : List Event) (width : ℕ) → IsFamily ends b ms → b.seat.by ≡ Outer → b.seat.out ≡ [] → IsLedgerOf b.seat L → ((m : Split) → IsAmong m ms → IsInPace width b.seat.events Outer ms m)
        → (R S : List Event) (e : Event) (k i : ℕ) → L ≡ R ++ e ∷ S → e.by ≡ Inner k → i < k → has_event (is_cancel i) R ≡ false → (m : Split) × IsAmong m ms × (m.stream ≡ k) × IsAmong i m.out

  -- the main seat may finish once nothing is open, all seats are back, and of each lease that it made it cancelled it or split the seat of its stream off
  abbrev pub FamilyMayFinish : Type 0
  FamilyMayFinish = (b : Seen P) (ms : List Split) → IsFamily ends b ms → b.seat.out ≡ [] → HasNothingOpen b.seat → ((j s : ℕ) → Notes b.seat.events b.seat.by (Lease j s) → IsAmong j b.seat.had ⊎ NotesCancel b.seat.events b.seat.by j) → CanFinish b.seat

  -- a tree that closed its root, and cancelled its one lease then, left last
  abbrev pub PartsLeaveLast : Type 0
  PartsLeaveLast = (a b y : Seen P) (j : ℕ) (T : List ℕ) (x : Exit) → AtStart a.seat → Called ends a [] b → IsClosedScope b 0 → Cancels ends b j T x y → LeavesLast y
