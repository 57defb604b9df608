-- What holds of a main tree while its streams come and go, and of its ledger.
use Rattle.std.specs.Prelude.{◌≡◌, ◌⊎◌, ℕ, suc, ◌+◌, ◌<◌, ◌≤◌, Bool, true, nat_eq, List, [], ◌∷◌, map, length, Some, None}
use Rattle.std.specs.List.{IsDistinct}
use Rattle.chunk_core.specs.declared.code.Exit.{Exit}
use Rattle.chunk_core.specs.declared.code.Exit.TheVariants.{Canceled}
use Rattle.chunk_core.specs.Lists.{IsAmong}
use Rattle.res_ledger.specs.declared.event.Event.{Event}
use Rattle.res_ledger.specs.declared.event.StreamNo.TheVariants.{Outer}
use Rattle.res_ledger.specs.declared.event.What.{What}
use Rattle.res_ledger.specs.declared.event.What.TheVariants.{Acquire, Close}
use Rattle.res_ledger.specs.Ledger.{Notes}
use Rattle.row_seat.specs.Views.{AreApart, CanFinish, CanJoin, CanSplit, IsLedgerOf, joined, split_main}
use Rattle.run_rules.specs.Rules.{ClosesBeforeLeaving}
use Rattle.scope_tree.specs.Calls.{AtStart, Cancels, ClosesScope, IsClosedScope, IsOpenScope, KeepsScopes, Leases, Seen}
use Rattle.tree_laws.specs.Alone.{HasNoOthers, StaysAlone}
use Rattle.tree_laws.specs.Called.{Called}
use Rattle.tree_laws.specs.Visits.{HasNothingOpen, Visits}
use Rattle.tree_families.specs.Families.{Split}
use Rattle.join_tree.specs.Guests.{AreOut, Guest, IsOut, IsReady}
use Rattle.tree_families.specs.Leaving.{LeavesLast}
use Rattle.join_tree.specs.Mains.{IsMain}
use Rattle.join_tree.specs.Progress.{Progress, closing_root, joining, leasing_next, none_done, reading, skipping, splitting, telling_out}
use Rattle.join_tree.specs.Settled.{Settles}
use Rattle.join_tree.specs.Steps.{KeepsGuests}
use Rattle.join_tree.specs.Notes.{RowsRise, is_table_note}

module _ {P : Type 0} (ends : P → Exit → Bool → P → Type 0) where
  -- how a main tree begins, and what each call of it keeps
  pub record MainGrows : Type 0 where
    pub starts : (width n : ℕ) (b : Seen P) → AtStart b.seat → HasNoOthers b.seat → b.seat.by ≡ Outer → b.shelf ≡ [] → 1 ≤ b.scopes → IsOpenScope b 0 → IsMain ends width n b (none_done P)
    -- calls for the tables, after which the root is open still, and by which the tree noted what is in E: rows of the root are acquired before it is leased, and rows in their order
    pub reads : (width n : ℕ) (b c : Seen P) (p : Progress P) (E : List What) → IsMain ends width n b p → p.root ≡ None → Called ends b [] c → StaysAlone b.seat c.seat → IsOpenScope c 0 → ((e : Event) → IsAmong e c.seat.events → IsAmong e b.seat.events ⊎ IsAmong e.what E) → ((w : What) → IsAmong w E → is_table_note w ≡ true) → ((r : ℕ) → IsAmong (Acquire r 0) E → Notes c.seat.events Outer (Acquire r 0)) → ((r : ℕ) → IsAmong (Acquire r 0) E → p.leased ≡ 0) → RowsRise c.seat.events → IsMain ends width n c (reading p E)
    -- an open scope is leased for the next stream; the seats that are out and the leases that wait are `width` at most, so that with the new one at most one more stands
    pub leases : (width n : ℕ) (b c : Seen P) (p : Progress P) (s : ℕ) (T : List ℕ) → IsMain ends width n b p → p.root ≡ None → p.leased < n → length b.seat.out + length p.waits ≤ width → IsOpenScope b s → Leases b s p.leased T c → KeepsScopes b c → IsMain ends width n c (leasing_next p T)
    -- it may be told anew which streams are out, if those that are stand among them
    pub tells_out : (width n : ℕ) (b : Seen P) (p : Progress P) (out : List ℕ) → IsMain ends width n b p → ((j : ℕ) → IsAmong j b.seat.out → IsAmong j out) → IsMain ends width n b (telling_out p out)
    pub closes : (width n : ℕ) (b c : Seen P) (p : Progress P) (x : Exit) → IsMain ends width n b p → p.root ≡ None → ClosesScope ends b 0 x c → IsClosedScope c 0 → IsMain ends width n c (closing_root p x)
    -- a child scope was closed, and the root is open still
    pub closes_child : (width n : ℕ) (b c : Seen P) (p : Progress P) (s : ℕ) (x : Exit) → IsMain ends width n b p → p.root ≡ None → IsOpenScope b (suc s) → ClosesScope ends b (suc s) x c → IsOpenScope c 0 → IsMain ends width n c (reading p (Close (suc s) x ∷ []))
    pub cancels : (width n : ℕ) (b c : Seen P) (p : Progress P) (us : List (ℕ × List ℕ)) (j : ℕ) (T : List ℕ) → IsMain ends width n b p → p.waits ≡ (j, T) ∷ us → Cancels ends b j T Canceled c → KeepsScopes b c → IsMain ends width n c (skipping p us)
    pub splits : (width n : ℕ) (b c : Seen P) (p : Progress P) (us : List (ℕ × List ℕ)) (j : ℕ) (T : List ℕ) (from to x : ℕ) → IsMain ends width n b p → p.waits ≡ (j, T) ∷ us → IsReady width b p → CanSplit b.seat j from to x → c ≡ record b { seat = split_main b.seat j from to x } → IsMain ends width n c (splitting p b.seat j us)
    pub joins : (width n : ℕ) (b c y : Seen P) (p : Progress P) (g : Guest) → IsMain ends width n b p → IsOut b p.splits g → CanJoin b.seat y.seat → AreApart b.seat y.seat → c ≡ record b { seat = joined b.seat y.seat } → KeepsScopes b c → Visits ends g.stream g.floor g.rows y → IsMain ends width n c (joining p y)

  -- once its root is closed, all seats are back and no lease waits, the main seat may finish
  abbrev pub MainMayFinish : Type 0
  MainMayFinish = (width n : ℕ) (b : Seen P) (p : Progress P) → IsMain ends width n b p → p.waits ≡ [] → b.seat.out ≡ [] → HasNothingOpen b.seat → CanFinish b.seat

  -- what its ledger tells then
  abbrev pub MainSettles : Type 0
  MainSettles = (width n : ℕ) (b : Seen P) (p : Progress P) (x : Exit) (L : List Event) → IsMain ends width n b p → p.root ≡ Some x → b.seat.out ≡ [] → IsLedgerOf b.seat L → Settles width n b p L

module _ (P : Type 0) where
  -- what is out while nothing goes out or comes in, in which order guests are told, and how many they are
  pub record GuestsStay : Type 0 where
    pub none : (b : Seen P) (ms : List Split) → b.seat.out ≡ [] → AreOut b ms []
    pub stay : (b c : Seen P) (ms : List Split) (gs : List Guest) → KeepsGuests b c → AreOut b ms gs → AreOut c ms gs
    pub order : (b : Seen P) (ms : List Split) (gs hs : List Guest) → AreOut b ms gs → ((g : Guest) → IsAmong g hs → IsAmong g gs) → ((g : Guest) → IsAmong g gs → IsAmong g hs) → IsDistinct nat_eq (map (λ g. g.stream) hs) → AreOut b ms hs
    pub few : (b : Seen P) (ms : List Split) (gs : List Guest) → IsDistinct nat_eq b.seat.out → AreOut b ms gs → length b.seat.out ≤ length gs
    pub empty : (b : Seen P) (ms : List Split) → AreOut b ms [] → b.seat.out ≡ []

  -- where each tree that came back left last, each stream closes its root before it leaves
  abbrev pub StreamsLeaveLast : Type 0
  StreamsLeaveLast = (width n : ℕ) (b : Seen P) (p : Progress P) (L : List Event) → Settles width n b p L → ((y : Seen P) → IsAmong y p.back → LeavesLast y) → ClosesBeforeLeaving L
