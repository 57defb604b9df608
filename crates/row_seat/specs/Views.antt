-- What the calls of a seat ask of its view, and what they leave.
use Rattle.std.specs.Prelude.{◌≡◌, ◌≢◌, ℕ, zero, suc, ◌+◌, ◌-◌, ◌<◌, ◌≤◌, ◌⊎◌, ◌↔◌, Bool, true, false, not, nat_eq, leb, ltb, cond, List, [], ◌∷◌, ◌++◌, filter}
use Rattle.res_ledger.specs.declared.event.What.TheVariants.{Acquire, Cancel, Close, Final, Lease, Open}
use Rattle.res_ledger.specs.Ledger.{Covers, IsAcquired, IsCanceled, IsClosed, IsCoveredBy, IsFinalized, IsLeased, IsLegal, IsOpened, IsStamped, IsUsable, Notes, NotesCancel}
use Rattle.res_ledger.specs.declared.event.Event.{Event}
use Rattle.res_ledger.specs.declared.event.StreamNo.TheVariants.{Inner, Outer}
use Rattle.chunk_core.specs.Lists.{IsAmong}
use Rattle.row_seat.specs.declared.view.Left.{Left}
use Rattle.row_seat.specs.declared.view.Left.TheVariants.{Stays, Yours}
use Rattle.res_ledger.specs.declared.event.StreamNo.{StreamNo}
use Rattle.row_seat.specs.declared.view.View.{View}
use Rattle.res_ledger.specs.declared.event.What.{What}

-- the list without r
abbrev pub without : ℕ → List ℕ → List ℕ
without r xs = filter (λ x. not (nat_eq x r)) xs

-- the pairs without (j, r)
abbrev pub without_pair : ℕ → ℕ → List (ℕ × ℕ) → List (ℕ × ℕ)
without_pair j r xs = filter (λ x. not (cond (nat_eq x.0 j) (nat_eq x.1 r) false)) xs

-- r is one of the rows from `from` to `to` - 1
abbrev pub IsWithin : ℕ → ℕ → ℕ → Type 0
IsWithin from to r = (from ≤ r) × (r < to)

-- whether it is
abbrev pub within : ℕ → ℕ → ℕ → Bool
within from to r = cond (leb from r) (ltb r to) false

-- the pairs of the stream j
abbrev pub stream_pairs : ℕ → List (ℕ × ℕ) → List (ℕ × ℕ)
stream_pairs j xs = filter (λ x. nat_eq x.0 j) xs

-- the number of an inner stream
abbrev pub name_of : StreamNo → ℕ
name_of Outer = 0
name_of (Inner j) = j

-- the Leases that a seat keeps after an event of its own
abbrev pub kept_after : What → List ℕ → List ℕ
kept_after (Lease j s) xs = xs ++ j ∷ []
kept_after (Cancel j how) xs = without j xs
kept_after w xs = xs

-- the rows handed to a seat, or taken by it, whose Final is not noted after an event of its own
abbrev pub handed_after : What → List ℕ → List ℕ
handed_after (Final r how ok) xs = without r xs
handed_after w xs = xs

-- k numbers from n on
abbrev pub run : ℕ → ℕ → List ℕ
run n zero = []
run n (suc k) = n ∷ run (suc n) k

-- one more than the greatest stamp, and 0 where there is none
abbrev pub next_stamp : List Event → ℕ
next_stamp [] = 0
next_stamp (e ∷ L) = cond (leb (suc e.stamp) (next_stamp L)) (next_stamp L) (suc e.stamp)

module _ {P : Type 0} where
  -- without the first pair that has the row r
  abbrev pub without_row : ℕ → List (ℕ × P) → List (ℕ × P)
  without_row r [] = []
  without_row r (x ∷ xs) = cond (nat_eq x.0 r) xs (x ∷ without_row r xs)

  -- the first pair that has the row r has w
  abbrev pub with_row : ℕ → P → List (ℕ × P) → List (ℕ × P)
  with_row r w [] = []
  with_row r w (x ∷ xs) = cond (nat_eq x.0 r) ((x.0, w) ∷ xs) (x ∷ with_row r w xs)

  -- the row r is in the list
  abbrev pub HasRow : List (ℕ × P) → ℕ → Type 0
  HasRow xs r = (p : P) × IsAmong (r, p) xs

  -- the seat has a lease on the row r
  abbrev pub HasPair : View P → ℕ → Type 0
  HasPair v r = (j : ℕ) × IsAmong (j, r) v.pairs

  -- the view of the first seat, which may split off so many
  abbrev pub start : StreamNo → ℕ → ℕ → ℕ → View P
  start by rows events splits = record { by = by; main = true; empty = run 0 rows; opened = []; pairs = []; kept = []; handed = []; taken = []; given = []; left = []; events = []; floor = 0; spare = events; had = []; out = []; splits = splits }

  -- the row is empty, the right to it is here, and its Acquire is noted
  abbrev pub CanPlace : View P → ℕ → Type 0
  CanPlace v r = IsAmong r v.empty × ((s : ℕ) × Notes v.events v.by (Acquire r s))

  -- a row is no longer empty
  abbrev pub emptied : View P → ℕ → View P
  emptied v r = record v { empty = without r v.empty }

  -- a row is open with a payload
  abbrev pub placed : View P → ℕ → P → View P
  placed v r p = record (emptied v r) { opened = v.opened ++ (r, p) ∷ [] }

  -- an open row has another payload
  abbrev pub paid : View P → ℕ → P → View P
  paid v r w = record v { opened = with_row r w v.opened }

  -- the main seat has the row open, and the stream is one that had no seat, has no Lease and no lease on this row
  abbrev pub CanLease : View P → ℕ → ℕ → Type 0
  CanLease v j r = (v.main ≡ true) × HasRow v.opened r × ¬ (IsAmong (j, r) v.pairs) × (v.by ≢ Inner j) × ¬ (IsAmong j v.had) × ¬ (IsLeased v.events j)

  -- a lease more
  abbrev pub leased : View P → ℕ → ℕ → View P
  leased v j r = record v { pairs = v.pairs ++ (j, r) ∷ [] }

  -- the lease is here, and the stream's Cancel is noted
  abbrev pub CanLeave : View P → ℕ → ℕ → Type 0
  CanLeave v j r = IsAmong (j, r) v.pairs × NotesCancel v.events v.by j

  -- a lease less
  abbrev pub gone : View P → ℕ → ℕ → View P
  gone v j r = record v { pairs = without_pair j r v.pairs }

  -- a row is handed to the seat with what its slot gave
  abbrev pub handed_with : View P → ℕ → List (ℕ × P) → View P
  handed_with v r pays = record v { handed = v.handed ++ r ∷ []; given = v.given ++ pays }

  -- a row is handed to the seat with its payload
  abbrev pub handed_over : View P → ℕ → P → View P
  handed_over v r p = handed_with v r ((r, p) ∷ [])

  -- the seat's own Lease for j covers the row, and its lease stands here or its stream has its seat out
  abbrev pub IsLeasedTo : View P → ℕ → ℕ → Type 0
  IsLeasedTo v j r = Covers v.events j v.by r × (IsAmong (j, r) v.pairs ⊎ IsAmong j v.out)

  -- a lease on the row r that is not for j, or its owner, holds it
  abbrev pub IsHeldStill : View P → ℕ → ℕ → Type 0
  IsHeldStill v j r = HasRow v.opened r ⊎ ((i : ℕ) × (i ≢ j) × IsLeasedTo v i r)

  -- the lease for j on the row r, which isn't open here, is the last one of this seat; if the seat closed the row, it left p in it
  pub record IsLastLease (v : View P) (j r : ℕ) (p : P) : Type 0 where
    pub closed : ¬ (HasRow v.opened r)
    pub alone : (i : ℕ) → IsAmong (i, r) v.pairs → i ≡ j
    pub left : (q : P) → IsAmong (r, q) v.left → q ≡ p

  -- the lease is gone. Stays: where the seat is the main one, the row is held still. Yours: it was the last on a closed row, which is handed over with the payload that was left in it
  abbrev pub LeavesRow : View P → ℕ → ℕ → Left → View P → Type 0
  LeavesRow v j r Stays w = (w ≡ gone v j r) × (v.main ≡ true → IsHeldStill v j r)
  LeavesRow v j r Yours w = (p : P) × (w ≡ handed_over (gone v j r) r p) × IsLastLease v j r p

  -- the row is open here, a Close that covers it is noted, and so is the Lease of each of its pairs here
  abbrev pub CanClose : View P → ℕ → Type 0
  CanClose v r = HasRow v.opened r × ((s : ℕ) × Notes v.events v.by (Acquire r s) × IsClosed v.events v.by s) × ((j : ℕ) → IsAmong (j, r) v.pairs → (s : ℕ) × Notes v.events v.by (Lease j s))

  -- a payload is left in its row
  abbrev pub left_in : View P → ℕ → P → View P
  left_in v r p = record v { left = v.left ++ (r, p) ∷ [] }

  -- a row is no longer open, and its payload is left in it
  abbrev pub shut : View P → ℕ → P → View P
  shut v r p = record (left_in v r p) { opened = without_row r v.opened }

  -- a row that this seat closes may stay for a lease: the seat is the main one, and leased the row
  abbrev pub MayStay : View P → ℕ → Type 0
  MayStay v r = (v.main ≡ true) × ((j : ℕ) × IsLeasedTo v j r)

  -- the row is closed. Stays: it is left to a lease. Yours: it is handed over
  abbrev pub ClosesRow : View P → ℕ → Left → View P → Type 0
  ClosesRow v r Stays w = (p : P) × IsAmong (r, p) v.opened × (w ≡ shut v r p) × MayStay v r
  ClosesRow v r Yours w = (p : P) × IsAmong (r, p) v.opened × (w ≡ handed_over (shut v r p) r p) × ¬ (HasPair v r)

  -- the row was handed over and is not taken
  abbrev pub CanTake : View P → ℕ → Type 0
  CanTake v r = IsAmong r v.handed × ¬ (IsAmong r v.taken)

  -- a handed row is taken
  abbrev pub took : View P → ℕ → View P
  took v r = record v { taken = v.taken ++ r ∷ [] }

  -- what an event asks of the seat that notes it
  abbrev pub MayNote : View P → What → Type 0
  MayNote v (Open s p) = (s ≢ 0) × ¬ (IsOpened v.events v.by s) × IsUsable v.events v.by p
  MayNote v (Acquire r s) = IsAmong r v.empty × ¬ (IsAcquired v.events r) × IsUsable v.events v.by s
  MayNote v (Lease j s) = (v.main ≡ true) × (v.by ≢ Inner j) × ¬ (IsAmong j v.had) × ¬ (IsLeased v.events j) × IsUsable v.events v.by s × ((r : ℕ) → IsAmong (j, r) v.pairs ↔ IsCoveredBy v.events v.by s r)
  MayNote v (Close s how) = IsUsable v.events v.by s
  MayNote v (Cancel j how) = IsAmong j v.kept × (v.by ≡ Inner j → (r s : ℕ) → Notes v.events v.by (Acquire r s) → IsFinalized v.events r)
  MayNote v (Final r how ok) = IsAmong r v.taken × IsAmong r v.handed

  -- what an event does to the rest of a view
  abbrev pub touched : View P → What → View P
  touched v w = record v { kept = kept_after w v.kept; handed = handed_after w v.handed; taken = handed_after w v.taken }

  -- an event is noted
  abbrev pub noted : View P → Event → View P
  noted v e = record (touched v e.what) { events = v.events ++ e ∷ []; spare = v.spare - 1 }

  -- the stamp is above those of the seat and not below its floor
  abbrev pub IsFreshStamp : View P → ℕ → Type 0
  IsFreshStamp v n = (v.floor ≤ n) × ((e : Event) → IsAmong e v.events → e.stamp < n)

  -- the main seat has the rows, empty and without an Acquire, and room for the events; the stream had no seat, and its Lease is noted where a lease of it is here
  abbrev pub CanSplit : View P → ℕ → ℕ → ℕ → ℕ → Type 0
  CanSplit v j from to n = (v.main ≡ true) × (v.by ≢ Inner j) × ¬ (IsAmong j v.had) × ((r : ℕ) → IsWithin from to r → IsAmong r v.empty × ¬ (IsAcquired v.events r)) × (n ≤ v.spare) × (1 ≤ v.splits) × ((r : ℕ) → IsAmong (j, r) v.pairs → IsLeased v.events j)

  -- the seat is at rest: nothing of it is open, leased or handed
  abbrev pub AtRest : View P → Type 0
  AtRest v = (v.opened ≡ []) × ((r : ℕ) → IsAmong r v.empty → ¬ (IsAcquired v.events r)) × (v.pairs ≡ []) × (v.kept ≡ []) × (v.handed ≡ []) × (v.taken ≡ [])

  -- a call of a seat by the name k leaves the fit of each seat with another name
  abbrev pub OthersFit : {S D : Type 0} → (S → View P) → (S → D → Type 0) → StreamNo → D → D → Type 0
  OthersFit {S} view fits k old new = (o : S) → (view o).by ≢ k → fits o old → fits o new

  -- what the main seat keeps where a seat is split off
  abbrev pub split_main : View P → ℕ → ℕ → ℕ → ℕ → View P
  split_main v j from to n = record v { empty = filter (λ r. not (within from to r)) v.empty; pairs = filter (λ x. not (nat_eq x.0 j)) v.pairs; kept = without j v.kept; spare = v.spare - n; had = v.had ++ j ∷ []; out = v.out ++ j ∷ []; splits = v.splits - 1 }

  -- the seat that is split off: its rows, the leases of its stream with their Lease, and room for its events
  abbrev pub split_off : View P → ℕ → ℕ → ℕ → ℕ → View P
  split_off v j from to n = record { by = Inner j; main = false; empty = run from (to - from); opened = []; pairs = stream_pairs j v.pairs; kept = filter (λ x. nat_eq x j) v.kept; handed = []; taken = []; given = []; left = []; events = []; floor = next_stamp v.events; spare = n; had = []; out = []; splits = 0 }

  -- the other is a seat of this main one that is out, and is at rest
  abbrev pub CanJoin : View P → View P → Type 0
  CanJoin v w = (v.main ≡ true) × ((j : ℕ) × (w.by ≡ Inner j) × IsAmong j v.out) × AtRest w

  -- a seat is taken in
  abbrev pub joined : View P → View P → View P
  joined v w = record v { empty = v.empty ++ w.empty; given = v.given ++ w.given; left = v.left ++ w.left; events = v.events ++ w.events; spare = v.spare + w.spare; out = without (name_of w.by) v.out }

  -- what the rule of rows tells of a main seat and another one of its maker: all events of the other are in its own name, which is not the main one's, and the main one has none in that name; the Acquire of an empty row stands with the seat that has the right to the row; and no lease stands on it and it has no Final
  pub record AreApart (v w : View P) : Type 0 where
    pub events : (e : Event) → IsAmong e w.events → e.by ≢ v.by
    pub own : (e : Event) → IsAmong e w.events → e.by ≡ w.by
    pub mine : (e : Event) → IsAmong e v.events → e.by ≢ w.by
    pub kept : (r : ℕ) → IsAmong r v.empty → IsAcquired w.events r → IsAcquired v.events r
    pub taken : (r : ℕ) → IsAmong r w.empty → IsAcquired v.events r → IsAcquired w.events r
    pub vacant : (r : ℕ) → IsAmong r w.empty → ¬ (IsFinalized v.events r) × ((j : ℕ) → ¬ (IsAmong (j, r) v.pairs))

  -- the main seat is at rest, and no seat is out
  abbrev pub CanFinish : View P → Type 0
  CanFinish v = (v.main ≡ true) × AtRest v × (v.out ≡ [])

  -- the same events, in the order of their stamps, and a IsLegal list. Each acquired row has its Final and each Lease its Cancel. Each row with a Final was handed with what its owner left
  pub record IsLedgerOf (v : View P) (L : List Event) : Type 0 where
    pub stamped : IsStamped L
    pub whole : (e : Event) → IsAmong e L ↔ IsAmong e v.events
    pub legal : IsLegal L
    pub ended : (r : ℕ) → IsAcquired L r → IsFinalized L r
    pub canceled : (j : ℕ) → IsLeased L j → IsCanceled L j
    -- each event is in the seat's own name or in that of a seat that was split off
    pub names : (e : Event) → IsAmong e L → (e.by ≡ v.by) ⊎ ((n : ℕ) × (e.by ≡ Inner n) × IsAmong n v.had)
    pub payloads : (r : ℕ) → IsFinalized L r → (p : P) × IsAmong (r, p) v.left × IsAmong (r, p) v.given × ((q : P) → IsAmong (r, q) v.left → q ≡ p) × ((q : P) → IsAmong (r, q) v.given → q ≡ p)
