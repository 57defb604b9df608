-- The rule of rows and seats: each part speaks of what it reads alone.
use Rattle.std.specs.Prelude.{◌≡◌, ◌≢◌, ℕ, ◌+◌, ◌*◌, ◌^◌, ◌<◌, ◌≤◌, ◌⊎◌, Bool, true, false, map, List, [], length, Some, Option}
use Rattle.res_ledger.specs.declared.event.What.TheVariants.{Acquire, Lease}
use Rattle.row_seat.specs.Totals.{IsAt, pair_times, row_times, stamp_times, times, total}
use Rattle.res_ledger.specs.Ledger.{Covers, IsAcquired, IsCanceled, IsFinalized, IsLeased, IsLegal, IsRowClosed, IsStamped, Notes}
use Rattle.res_ledger.specs.declared.event.Event.{Event}
use Rattle.res_ledger.specs.Streams.{HasRight, by_stream}
use Rattle.res_ledger.specs.declared.event.StreamNo.TheVariants.{Inner}
use Rattle.chunk_core.specs.Lists.{IsAmong}
use Rattle.res_ledger.specs.declared.event.StreamNo.{StreamNo}
use Rattle.row_seat.specs.declared.token.Token.{Token}
use Rattle.row_seat.specs.declared.view.View.{View}

-- who sits: the seats
pub record Who : Type 0 where
  pub live : Bool
  pub main : Bool
  pub by : StreamNo
  pub had : List ℕ
  pub out : List ℕ

-- there is one main seat; the seats that are out are its; live seats have different names; an event in another name is of a stream that had a seat
pub record SeatsAgree (log : List Event) (ws : List Who) : Type 0 where
  pub main : (i : ℕ) × (w : Who) × IsAt ws i w × (w.main ≡ true)
  pub one : (i j : ℕ) (v w : Who) → IsAt ws i v → IsAt ws j w → v.main ≡ true → w.main ≡ true → i ≡ j
  pub alive : (i : ℕ) (w : Who) → IsAt ws i w → w.main ≡ true → w.live ≡ true
  pub out : (i j : ℕ) (v w : Who) → IsAt ws i v → IsAt ws j w → v.main ≡ true → w.live ≡ true → w.main ≡ false → (n : ℕ) × (w.by ≡ Inner n) × IsAmong n v.out
  pub had : (i n : ℕ) (v : Who) → IsAt ws i v → v.main ≡ true → IsAmong n v.out → IsAmong n v.had
  pub apart : (i n : ℕ) (v : Who) → IsAt ws i v → v.main ≡ true → IsAmong n v.had → v.by ≢ Inner n
  pub names : (i j : ℕ) (v w : Who) → IsAt ws i v → IsAt ws j w → v.live ≡ true → w.live ≡ true → v.by ≡ w.by → i ≡ j
  pub noted : (i : ℕ) (v : Who) (e : Event) → IsAt ws i v → v.main ≡ true → IsAmong e log → e.by ≢ v.by → (n : ℕ) × (e.by ≡ Inner n) × IsAmong n v.had

-- what was noted: the events and their room
pub record Book : Type 0 where
  pub live : Bool
  pub main : Bool
  pub by : StreamNo
  pub events : List Event
  pub floor : ℕ
  pub spare : ℕ

-- the events of all seats are the log, which is legal, and no more may be noted than there is room for
pub record BooksAgree (room : ℕ) (log : List Event) (bs : List Book) : Type 0 where
  pub stamped : IsStamped log
  pub legal : IsLegal log
  pub sum : total (λ (b : Book). b.spare) bs + length log ≡ room
  -- the log is what stands in the views, each event once
  pub inside : (i : ℕ) (b : Book) (e : Event) → IsAt bs i b → IsAmong e b.events → IsAmong e log
  pub whole : (e : Event) → IsAmong e log → (i : ℕ) × (b : Book) × IsAt bs i b × IsAmong e b.events
  pub once : (n : ℕ) → total (λ (b : Book). stamp_times n b.events) bs ≤ 1
  -- the events of a stream stand in one view, in their order; it is that of the stream's seat while the seat is live
  pub one : (i j : ℕ) (b c : Book) (d e : Event) → IsAt bs i b → IsAt bs j c → IsAmong d b.events → IsAmong e c.events → d.by ≡ e.by → i ≡ j
  pub order : (i : ℕ) (b : Book) (e : Event) → IsAt bs i b → IsAmong e b.events → by_stream e.by b.events ≡ by_stream e.by log
  pub own : (i : ℕ) (b : Book) → IsAt bs i b → b.live ≡ true → by_stream b.by b.events ≡ by_stream b.by log
  pub pure : (i : ℕ) (b : Book) (e : Event) → IsAt bs i b → b.main ≡ false → IsAmong e b.events → e.by ≡ b.by
  -- a seat's floor is reached, and none of its events is below it
  pub floor : (i : ℕ) (b : Book) → IsAt bs i b → b.floor ≤ length log
  pub above : (i : ℕ) (b : Book) (e : Event) → IsAt bs i b → IsAmong e b.events → e.by ≡ b.by → b.floor ≤ e.stamp

-- the rows' words. e, o, n, h: in how many views the row is empty, open, how many pairs are on it, in how many it is handed.
pub data RowStands (rows r word e o n h : ℕ) (A C F : Type 0) : Type 0 where
  vacant : r < rows → word ≡ 0 → e ≡ 1 → o ≡ 0 → n ≡ 0 → h ≡ 0 → ¬ F → RowStands rows r word e o n h A C F
  opened : r < rows → word ≡ 1 + 4 * n → e ≡ 0 → o ≡ 1 → h ≡ 0 → A → ¬ F → RowStands rows r word e o n h A C F
  awaits : r < rows → word ≡ 3 + 4 * n → 1 ≤ n → e ≡ 0 → o ≡ 0 → h ≡ 0 → C → ¬ F → RowStands rows r word e o n h A C F
  handed : r < rows → word ≡ 3 → e ≡ 0 → o ≡ 0 → n ≡ 0 → h ≡ 1 → C → ¬ F → RowStands rows r word e o n h A C F
  final : r < rows → word ≡ 3 → e ≡ 0 → o ≡ 0 → n ≡ 0 → h ≡ 0 → C → F → RowStands rows r word e o n h A C F
  beyond : rows ≤ r → e ≡ 0 → o ≡ 0 → n ≡ 0 → h ≡ 0 → ¬ A → RowStands rows r word e o n h A C F

-- what a view has of rows
pub record Holdings : Type 0 where
  pub empty : List ℕ
  pub opened : List ℕ
  pub pairs : List (ℕ × ℕ)
  pub handed : List ℕ

-- in how many views the row is empty
abbrev pub empties : ℕ → List Holdings → ℕ
empties r ws = total (λ (w : Holdings). times r w.empty) ws

-- in how many it is open
abbrev pub open_count : ℕ → List Holdings → ℕ
open_count r ws = total (λ (w : Holdings). times r w.opened) ws

-- how many leases stand on it
abbrev pub leases : ℕ → List Holdings → ℕ
leases r ws = total (λ (w : Holdings). row_times r w.pairs) ws

-- in how many it is handed
abbrev pub hands : ℕ → List Holdings → ℕ
hands r ws = total (λ (w : Holdings). times r w.handed) ws

-- each row stands in at most one way, and its word tells which
abbrev pub RowsAgree : ℕ → (ℕ → ℕ) → List Event → List Holdings → Type 0
RowsAgree rows word log ws = (r : ℕ) → RowStands rows r (word r) (empties r ws) (open_count r ws) (leases r ws) (hands r ws) (IsAcquired log r) (IsRowClosed log r) (IsFinalized log r)

-- whose the rows are
pub record Ownership : Type 0 where
  pub by : StreamNo
  pub events : List Event
  pub empty : List ℕ
  pub opened : List ℕ
  pub handed : List ℕ

-- a row is placed by the stream that acquired it, and finalized by who has the right
pub record OwnershipsAgree (log : List Event) (ds : List Ownership) : Type 0 where
  pub fresh : (i r t : ℕ) (k : StreamNo) (d : Ownership) → IsAt ds i d → IsAmong r d.empty → Notes log k (Acquire r t) → Notes d.events k (Acquire r t)
  pub opened : (i r : ℕ) (d : Ownership) → IsAt ds i d → IsAmong r d.opened → (s : ℕ) × Notes log d.by (Acquire r s)
  pub handed : (i r : ℕ) (d : Ownership) → IsAt ds i d → IsAmong r d.handed → HasRight log d.by r

-- the leases
pub record Hold : Type 0 where
  pub main : Bool
  pub by : StreamNo
  pub had : List ℕ
  pub pairs : List (ℕ × ℕ)
  pub kept : List ℕ
  pub opened : List ℕ

-- a Lease that is not cancelled stands with the main seat until its stream has a seat, and with that seat from then on, and so do its leases on rows
pub record LeasesAgree (log : List Event) (hs : List Hold) : Type 0 where
  pub by_main : (i j s : ℕ) (k : StreamNo) (h : Hold) → IsAt hs i h → h.main ≡ true → Notes log k (Lease j s) → k ≡ h.by
  pub stand : (j r : ℕ) (k : StreamNo) → Covers log j k r → IsCanceled log j ⊎ ((i : ℕ) × (h : Hold) × IsAt hs i h × IsAmong (j, r) h.pairs)
  pub paired : (i j r : ℕ) (h : Hold) → IsAt hs i h → IsAmong (j, r) h.pairs → ((k : StreamNo) × Covers log j k r) ⊎ (¬ (IsLeased log j) × (h.main ≡ true) × IsAmong r h.opened)
  pub holder : (i j r : ℕ) (h : Hold) → IsAt hs i h → IsAmong (j, r) h.pairs → ((h.main ≡ true) × ¬ (IsAmong j h.had)) ⊎ (h.by ≡ Inner j)
  pub kept : (i j : ℕ) (h : Hold) → IsAt hs i h → IsAmong j h.kept → IsLeased log j × ¬ (IsCanceled log j) × (((h.main ≡ true) × ¬ (IsAmong j h.had)) ⊎ (h.by ≡ Inner j))
  pub keeper : (j : ℕ) → IsLeased log j → IsCanceled log j ⊎ ((i : ℕ) × (h : Hold) × IsAt hs i h × IsAmong j h.kept)
  pub kept_once : (j : ℕ) → total (λ (h : Hold). times j h.kept) hs ≤ 1
  pub pair_once : (j r : ℕ) → total (λ (h : Hold). pair_times j r h.pairs) hs ≤ 1

-- the payloads
pub record Purse (P : Type 0) : Type 0 where
  pub handed : List ℕ
  pub taken : List ℕ
  pub left : List (ℕ × P)
  pub given : List (ℕ × P)

module _ {P : Type 0} where
  -- a view has left x in the row
  abbrev pub LeftIn : List (Purse P) → ℕ → P → Type 0
  LeftIn ps r x = (i : ℕ) × (p : Purse P) × IsAt ps i p × IsAmong (r, x) p.left

  -- a row was handed to a view with x
  abbrev pub GivenIn : List (Purse P) → ℕ → P → Type 0
  GivenIn ps r x = (i : ℕ) × (p : Purse P) × IsAt ps i p × IsAmong (r, x) p.given

  -- a closed row holds what was left in it until it is taken
  pub record PaysAgree (word : ℕ → ℕ) (slot : ℕ → Option P) (log : List Event) (ps : List (Purse P)) : Type 0 where
    pub left_when : (r : ℕ) (x : P) → LeftIn ps r x → (n : ℕ) × (word r ≡ 3 + 4 * n)
    pub given_when : (r : ℕ) (x : P) → GivenIn ps r x → word r ≡ 3
    pub left_one : (r : ℕ) (x y : P) → LeftIn ps r x → LeftIn ps r y → x ≡ y
    pub given_is : (r : ℕ) (x : P) → GivenIn ps r x → LeftIn ps r x
    pub waits : (r n : ℕ) → word r ≡ 3 + 4 * n → 1 ≤ n → (x : P) × LeftIn ps r x × (slot r ≡ Some x)
    pub handed : (i r : ℕ) (p : Purse P) → IsAt ps i p → IsAmong r p.handed → (x : P) × IsAmong (r, x) p.given × (¬ (IsAmong r p.taken) → slot r ≡ Some x)
    pub final : (r : ℕ) → IsFinalized log r → (x : P) × GivenIn ps r x

  -- v is the view of a seat in use, at the place id
  pub record IsSeated (views : List (Token P)) (id : ℕ) (v : Token P) : Type 0 where
    pub at : IsAt views id v
    pub live : v.live ≡ true

  -- each row of the view is below n, and the rows that may be open are no more
  pub record IsInside (n : ℕ) (v : Token P) : Type 0 where
    pub empty : (r : ℕ) → IsAmong r v.empty → r < n
    pub opened : (r : ℕ) → IsAmong r v.opened → r < n
    pub pairs : (j r : ℕ) → IsAmong (j, r) v.pairs → r < n
    pub handed : (r : ℕ) → IsAmong r v.handed → r < n
    pub few : length v.empty + length v.opened ≤ n

  -- a view of nothing
  pub record IsBlankView (v : Token P) : Type 0 where
    pub empty : v.empty ≡ []
    pub opened : v.opened ≡ []
    pub pairs : v.pairs ≡ []
    pub kept : v.kept ≡ []
    pub handed : v.handed ≡ []
    pub given : v.given ≡ []
    pub left : v.left ≡ []
    pub events : v.events ≡ []

  -- a row whose Acquire is among its events is empty here, open here, or was closed here or by a seat that it took in
  abbrev pub KnowsRows : Token P → Type 0
  KnowsRows v = (r : ℕ) → IsAcquired v.events r → IsAmong r v.empty ⊎ (IsAmong r v.opened ⊎ ((p : P) × IsAmong (r, p) v.left))

  -- what the parts of the rule read of a view
  abbrev pub who : Token P → Who
  who v = record { live = v.live; main = v.main; by = v.by; had = v.had; out = v.out }

  abbrev pub book : Token P → Book
  book v = record { live = v.live; main = v.main; by = v.by; events = v.events; floor = v.floor; spare = v.spare }

  abbrev pub work : Token P → Holdings
  work v = record { empty = v.empty; opened = v.opened; pairs = v.pairs; handed = v.handed }

  abbrev pub ownership : Token P → Ownership
  ownership v = record { by = v.by; events = v.events; empty = v.empty; opened = v.opened; handed = v.handed }

  abbrev pub hold : Token P → Hold
  hold v = record { main = v.main; by = v.by; had = v.had; pairs = v.pairs; kept = v.kept; opened = v.opened }

  abbrev pub purse : Token P → Purse P
  purse v = record { handed = v.handed; taken = v.taken; left = v.left; given = v.given }

  -- a seat's view: what it knows, with the payloads in its hands
  abbrev pub view_of : Token P → List (ℕ × P) → View P
  view_of v mine = record { by = v.by; main = v.main; empty = v.empty; opened = mine; pairs = v.pairs; kept = v.kept; handed = v.handed; taken = v.taken; given = v.given; left = v.left; events = v.events; floor = v.floor; spare = v.spare; had = v.had; out = v.out; splits = v.splits }

  -- what stands between two calls
  pub record RuleHolds (rows room : ℕ) (word : ℕ → ℕ) (slot : ℕ → Option P) (log : List Event) (views : List (Token P)) : Type 0 where
    pub seats : SeatsAgree log (map who views)
    pub books : BooksAgree room log (map book views)
    pub words : RowsAgree rows word log (map work views)
    pub ownerships : OwnershipsAgree log (map ownership views)
    pub leases : LeasesAgree log (map hold views)
    pub pays : PaysAgree word slot log (map purse views)
    -- streams are numbered in 32 bits
    pub small : (i j r : ℕ) (v : Token P) → IsAt views i v → IsAmong (j, r) v.pairs → j < 2 ^ 32
    -- a seat that was taken in has nothing
    pub taken_in : (i : ℕ) (v : Token P) → IsAt views i v → v.live ≡ false → IsBlankView v
