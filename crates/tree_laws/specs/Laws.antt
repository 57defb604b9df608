-- What follows for the ledger, whatever calls were made of a tree.
use Rattle.std.specs.Prelude.{◌≡◌, ◌≢◌, ◌↔◌, ◌⊎◌, ℕ, ◌+◌, ◌≤◌, Bool, false, List, [], ◌++◌, length}
use Rattle.chunk_core.specs.declared.code.Exit.{Exit}
use Rattle.chunk_core.specs.Lists.{IsAmong}
use Rattle.res_ledger.specs.declared.event.Event.{Event}
use Rattle.res_ledger.specs.declared.event.What.TheVariants.{Acquire}
use Rattle.res_ledger.specs.Ledger.{IsFinalized, IsLegal, Notes, NotesCancel}
use Rattle.res_ledger.specs.Order.{IsOrdered, covered_by, firsts}
use Rattle.res_ledger.specs.Own.{opens}
use Rattle.res_ledger.specs.Streams.{by_stream}
use Rattle.res_ledger.specs.Whole.{IsComplete}
use Rattle.res_ledger.specs.Rising.{Rises}
use Rattle.row_seat.specs.declared.view.View.{View}
use Rattle.row_seat.specs.Views.{AreApart, AtRest, CanFinish, CanJoin, IsLedgerOf, next_stamp, joined, paid, split_off}
use Rattle.scope_tree.specs.Calls.{AcquiresRow, AtStart, Cancels, ClosesScope, IsClosedScope, Leases, OpensScope, Seen}
use Rattle.scope_tree.specs.Tidy.{IsTidy}
use Rattle.scope_tree.specs.declared.tree.Tree.{Tree}
use Rattle.scope_tree.specs.declared.branch.Spent.{Spent}
use Rattle.scope_tree.specs.Released.{said}
use Rattle.scope_tree.specs.Trees.{IsConsistent, seen}
use Rattle.scope_tree.specs.Trace.{ended_rows, own_rows, trace}
use Rattle.tree_laws.specs.Called.{Called, MayCancel, MayLease}
use Rattle.tree_laws.specs.Alone.{HasNoMoreLeases, HasNoOthers, StaysAlone}
use Rattle.tree_laws.specs.Ends.{AreCovered, IsFinishedLedger}
use Rattle.tree_laws.specs.Given.{WasGiven}
use Rattle.tree_laws.specs.Lent.{Lent}
use Rattle.tree_laws.specs.Shelves.{noted_ends, shelf_ends}
use Rattle.tree_laws.specs.Names.{IsFloored, IsNamed}
use Rattle.tree_laws.specs.Visits.{HasNothingOpen, IsNewGuest, Visits}
use Rattle.tree_laws.specs.Whole.{IsCompleteFor, IsWholeLedger, IsWholeFor}
use Rattle.res_ledger.specs.Order.{IsInOrder}

module _ {P : Type 0} (ends : P → Exit → Bool → P → Type 0) where
  -- calls, and calls after them, are calls
  abbrev pub CallsFollow : Type 0
  CallsFollow = (a b c : Seen P) (Cs Ds : List (ℕ × List ℕ)) → Called ends a Cs b → Called ends b Ds c → Called ends a (Cs ++ Ds) c

  -- since the start, what the stream noted stands in blocks
  abbrev pub CallsAreTidy : Type 0
  CallsAreTidy = (a b : Seen P) (Cs : List (ℕ × List ℕ)) → AtStart a.seat → Called ends a Cs b → IsTidy b.seat Cs

  -- since the start, with an empty shelf, the shelf has the Finals that were noted, in order
  abbrev pub ShelfIsSaid : Type 0
  ShelfIsSaid = (a b : Seen P) (Cs : List (ℕ × List ℕ)) → AtStart a.seat → a.shelf ≡ [] → Called ends a Cs b → ended_rows (trace b.seat) ≡ said b.shelf

  -- no row stands on the shelves of two trees of different streams, which both began with an empty one, and whose events a finished ledger has
  abbrev pub ShelvesAreApart : Type 0
  ShelvesAreApart = (a b c d : Seen P) (Cs Ds : List (ℕ × List ℕ)) (u : View P) (L : List Event) → AtStart a.seat → a.shelf ≡ [] → Called ends a Cs b → IsFinishedLedger b u L → AtStart c.seat → c.shelf ≡ [] → Called ends c Ds d → IsFinishedLedger d u L → b.seat.by ≢ d.seat.by → (r : ℕ) → IsAmong r (firsts (said b.shelf)) → ¬ (IsAmong r (firsts (said d.shelf)))

  -- each of these Finals has the exit that the row on the shelf was finished with
  abbrev pub ShelfHasExits : Type 0
  ShelfHasExits = (a b : Seen P) (Cs : List (ℕ × List ℕ)) → AtStart a.seat → a.shelf ≡ [] → Called ends a Cs b → noted_ends (trace b.seat) ≡ shelf_ends b.shelf

  -- since the start, the stamps of the stream's events rise
  abbrev pub StampsRise : Type 0
  StampsRise = (a b : Seen P) (Cs : List (ℕ × List ℕ)) → AtStart a.seat → Called ends a Cs b → Rises (by_stream b.seat.by b.seat.events)

  -- since the start, the scopes are no more than there was room for, which stays
  abbrev pub ScopesFit : Type 0
  ScopesFit = (a b : Seen P) (Cs : List (ℕ × List ℕ)) → AtStart a.seat → 1 ≤ a.scopes → Called ends a Cs b → (length (opens (trace b.seat)) + 1 ≤ b.scopes) × (b.scopes ≡ a.scopes) × (b.rows ≡ a.rows)

  -- what was noted stays noted, in the same name
  abbrev pub EventsStay : Type 0
  EventsStay = (a b : Seen P) (Cs : List (ℕ × List ℕ)) → Called ends a Cs b → (b.seat.by ≡ a.seat.by) × ((e : Event) → IsAmong e a.seat.events → IsAmong e b.seat.events)

  -- a lease that was cancelled has its Cancel
  abbrev pub CancelsAreNoted : Type 0
  CancelsAreNoted = (a b : Seen P) (Cs : List (ℕ × List ℕ)) (j : ℕ) (T : List ℕ) → Called ends a Cs b → IsAmong (j, T) Cs → NotesCancel b.seat.events b.seat.by j

  -- each event of a seat that had none, and had no seat out, is in its own name or in that of a seat that it took in
  abbrev pub EventsAreNamed : Type 0
  EventsAreNamed = (a b : Seen P) (Cs : List (ℕ × List ℕ)) → a.seat.events ≡ [] → a.seat.out ≡ [] → Called ends a Cs b → IsNamed b.seat

  -- none in its own name is stamped below its floor, which stays
  abbrev pub EventsAreFloored : Type 0
  EventsAreFloored = (a b : Seen P) (Cs : List (ℕ × List ℕ)) → a.seat.events ≡ [] → Called ends a Cs b → (b.seat.floor ≡ a.seat.floor) × IsFloored b.seat

  -- each row on the shelf was handed to the seat, with a payload that was finished into the one that stands there
  abbrev pub ShelfIsGiven : Type 0
  ShelfIsGiven = (a b : Seen P) (Cs : List (ℕ × List ℕ)) → a.shelf ≡ [] → Called ends a Cs b → (x : Spent P) → IsAmong x b.shelf → WasGiven ends b.seat.given x

  -- a lease that a call made is one that the tree made, and stays so
  abbrev pub LeaseIsLent : Type 0
  LeaseIsLent = (a b c : Seen P) (s j : ℕ) (T : List ℕ) (Cs : List (ℕ × List ℕ)) → Leases a s j T b → Called ends b Cs c → Lent c.seat j T

  -- where a tree cancels only leases that it made, their rows are those that the ledger tells
  abbrev pub OwnLeasesAreCovered : Type 0
  OwnLeasesAreCovered = (a b : Seen P) (Cs : List (ℕ × List ℕ)) (u : View P) (L : List Event) → AtStart a.seat → Called ends a Cs b → IsFinishedLedger b u L → ((j : ℕ) (T : List ℕ) → IsAmong (j, T) Cs → Lent b.seat j T) → AreCovered L Cs

  -- the tree of a seat that isn't the main one: it notes events in its own name alone, no Lease among them, and where it keeps no Lease it has cancelled each that it kept at first
  pub record SubTrees : Type 0 where
    pub own : (a b : Seen P) (Cs : List (ℕ × List ℕ)) → a.seat.main ≡ false → Called ends a Cs b → (e : Event) → IsAmong e b.seat.events → IsAmong e a.seat.events ⊎ (e.by ≡ b.seat.by)
    pub leaseless : (a b : Seen P) (Cs : List (ℕ × List ℕ)) → a.seat.main ≡ false → Called ends a Cs b → HasNoMoreLeases a.seat.events b.seat.events
    pub canceled : (a b : Seen P) (Cs : List (ℕ × List ℕ)) (j : ℕ) → a.seat.main ≡ false → a.seat.had ≡ [] → Called ends a Cs b → b.seat.kept ≡ [] → IsAmong j a.seat.kept → NotesCancel b.seat.events b.seat.by j

  -- once its own lease is cancelled, its root closed and nothing is open, the seat of a guest is at rest
  abbrev pub GuestsRest : Type 0
  GuestsRest = (j n : ℕ) (T : List ℕ) (y : Seen P) → Visits ends j n T y → HasNothingOpen y.seat → AtRest y.seat

  -- where a main tree, which had no seat out at first, took in the seat of another tree, the ledger of its own seat has of that tree's stream just the events that the tree noted
  abbrev pub JoinedIsFinished : Type 0
  JoinedIsFinished = (a b c d x : Seen P) (Cs Ds : List (ℕ × List ℕ)) (L : List Event) → a.seat.out ≡ [] → Called ends a Cs b → CanJoin b.seat x.seat → AreApart b.seat x.seat → c ≡ record b { seat = joined b.seat x.seat } → Called ends c Ds d → IsLedgerOf d.seat L → IsFinishedLedger x d.seat L

  -- the ledger has the stream's events as the tree noted them
  abbrev pub LedgerHasEvents : Type 0
  LedgerHasEvents = (a b : Seen P) (Cs : List (ℕ × List ℕ)) (u : View P) (L : List Event) → AtStart a.seat → Called ends a Cs b → IsFinishedLedger b u L → by_stream b.seat.by L ≡ by_stream b.seat.by b.seat.events

  -- and in order
  abbrev pub LedgerIsInOrder : Type 0
  LedgerIsInOrder = (a b : Seen P) (Cs : List (ℕ × List ℕ)) (u : View P) (L : List Event) → AtStart a.seat → Called ends a Cs b → IsFinishedLedger b u L → AreCovered L Cs → IsInOrder L b.seat.by

  -- once the tree's root is closed the ledger is complete for its stream
  abbrev pub LedgerIsComplete : Type 0
  LedgerIsComplete = (a b : Seen P) (Cs : List (ℕ × List ℕ)) (u : View P) (L : List Event) → AtStart a.seat → Called ends a Cs b → IsFinishedLedger b u L → IsClosedScope b 0 → IsCompleteFor L b.seat.by

  -- so it is legal, in order and complete for it
  abbrev pub LedgerIsWhole : Type 0
  LedgerIsWhole = (a b : Seen P) (Cs : List (ℕ × List ℕ)) (u : View P) (L : List Event) → AtStart a.seat → Called ends a Cs b → IsFinishedLedger b u L → IsClosedScope b 0 → AreCovered L Cs → IsWholeFor L b.seat.by

  -- so for a tree that made one lease and cancelled it itself
  abbrev pub OneLeaseIsWhole : Type 0
  OneLeaseIsWhole = (a b c d e f : Seen P) (s j : ℕ) (T : List ℕ) (x : Exit) (u : View P) (L : List Event) → AtStart a.seat → Called ends a [] b → MayLease b s j → Leases b s j T c → Called ends c [] d → MayCancel d j T → Cancels ends d j T x e → Called ends e [] f → IsFinishedLedger f u L → IsClosedScope f 0 → IsWholeFor L f.seat.by

  -- each of these calls leaves a tree alone, and so do several
  pub record CallsStayAlone : Type 0 where
    pub opens : (a b : Seen P) (at c : ℕ) → OpensScope a at c b → StaysAlone a.seat b.seat
    pub acquires : (a b : Seen P) (s r : ℕ) (p : P) → AcquiresRow a s r p b → StaysAlone a.seat b.seat
    pub writes : (v : View P) (r : ℕ) (p : P) → StaysAlone v (paid v r p)
    pub closes : (a b : Seen P) (s : ℕ) (x : Exit) → ClosesScope ends a s x b → StaysAlone a.seat b.seat
    pub none : (v : View P) → StaysAlone v v
    pub follow : (u v w : View P) → StaysAlone u v → StaysAlone v w → StaysAlone u w

  -- a cancellation notes no Lease
  abbrev pub CancelsAreLeaseless : Type 0
  CancelsAreLeaseless = (a b : Seen P) (j : ℕ) (T : List ℕ) (x : Exit) → Cancels ends a j T x b → HasNoMoreLeases a.seat.events b.seat.events

  -- once the root of a tree that stayed alone is closed the ledger is legal, complete and in order
  abbrev pub AloneIsWhole : Type 0
  AloneIsWhole = (a b : Seen P) (L : List Event) → AtStart a.seat → Called ends a [] b → StaysAlone a.seat b.seat → IsClosedScope b 0 → IsLedgerOf b.seat L → IsWholeLedger L

-- a tree that stayed alone may finish its seat once nothing is open
abbrev pub AloneCanFinish : Type 0 → Type 0
AloneCanFinish P = (v w : View P) → HasNoOthers v → StaysAlone v w → HasNothingOpen w → CanFinish w

-- where the main seat keeps the Lease for j, with leases on the rows T, the seat that it splits off for j is a guest
abbrev pub SplitsMakeGuests : Type 0 → Type 0
SplitsMakeGuests P = (v : View P) (j from to n : ℕ) (T : List ℕ) → AtStart (split_off v j from to n) → IsAmong j v.kept → ((r : ℕ) → IsAmong (j, r) v.pairs ↔ IsAmong r T) → IsNewGuest (split_off v j from to n) j (next_stamp v.events) T

-- the rows of a lease that the tree made are rows that it acquired
abbrev pub LentIsOwn : Type 0 → Type 0
LentIsOwn P = (v : View P) (j : ℕ) (T : List ℕ) → Lent v j T → (r : ℕ) → IsAmong r T → IsAmong r (own_rows v)

-- the Lease of a lease that the tree made covers its rows
abbrev pub LentIsCovered : Type 0 → Type 0
LentIsCovered P = (v : View P) (L : List Event) (j : ℕ) (T : List ℕ) → Lent v j T → IsLegal L → by_stream v.by L ≡ by_stream v.by v.events → covered_by L j ≡ T

-- a ledger that is whole for each stream that noted something is whole
abbrev pub WholeForEach : Type 0
WholeForEach = (L : List Event) → ((e : Event) → IsAmong e L → IsWholeFor L e.by) → IsComplete L × IsOrdered L

-- where no other seat can hold a row back and the root is closed, each row that the tree acquired has its Final
abbrev pub RowsHaveEnded : {S P : Type 0} → (S → View P) → Type 0 → Type 0
RowsHaveEnded {S} {P} view D = (t : Tree S P D) → IsConsistent view t → (seen view t).seat.main ≡ false → IsClosedScope (seen view t) 0 → (r s : ℕ) → Notes (seen view t).seat.events (seen view t).seat.by (Acquire r s) → IsFinalized (seen view t).seat.events r
