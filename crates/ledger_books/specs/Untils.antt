-- By when leases are canceled, told ahead.
use Rattle.std.specs.Prelude.{◌≡◌, ◌<◌, ◌≤◌, ℕ, if◌then◌else◌, List, Some, unwrap_or}
use Rattle.res_ledger.specs.declared.event.StreamNo.{StreamNo}
use Rattle.res_ledger.specs.declared.event.What.{What}
use Rattle.res_ledger.specs.declared.event.What.TheVariants.{Acquire, Lease}
use Rattle.res_ledger.specs.declared.event.Event.{Event}
use Rattle.ledger_books.specs.declared.index.Key.{Key}
use Rattle.ledger_books.specs.declared.index.Key.TheVariants.{Acquired, Begun, Canceled}
use Rattle.ledger_books.specs.declared.index.Index.{Index}
use Rattle.ledger_books.specs.Key.{place_of, same_key}
use Rattle.ledger_books.specs.Keyed.{NotesAt, number_of}

-- where the lease for j is canceled; the greatest number where it isn't
abbrev pub cancel_of : Index → ℕ → ℕ
cancel_of f j = unwrap_or (place_of f (Canceled j)) 18446744073709551615

-- what is kept of the stream with this number; 0 where nothing is
abbrev pub latest_of : Index → ℕ → ℕ
latest_of x n = unwrap_or (place_of x (Begun n)) 0

-- what is kept of a stream falls for none, and is no less than that for this one
pub record Raises (x y : Index) (k until : ℕ) : Type 0 where
  pub more : (n : ℕ) → latest_of x n ≤ latest_of y n
  pub reaches : until ≤ latest_of y k

-- the Cancel of a lease that k notes is kept
abbrev pub RaisesFor : Index → Index → Index → StreamNo → What → Type 0
RaisesFor x y f k (Lease j s) = Raises x y (number_of k) (cancel_of f j)
RaisesFor x y f k w = y ≡ x

-- the place is kept for a row that is acquired
abbrev pub SetsUntil : Index → Index → ℕ → What → Type 0
SetsUntil x y u (Acquire r s) = (q : Key) → place_of y q ≡ (if same_key (Acquired r) q then Some u else place_of x q)
SetsUntil x y u w = y ≡ x

-- the leases that k notes behind place m are canceled by place u
abbrev pub IsUntil : Index → List Event → StreamNo → ℕ → ℕ → Type 0
IsUntil f L k m u = (i j s : ℕ) → m < i → NotesAt L i k (Lease j s) → cancel_of f j ≤ u

-- the row r isn't acquired from place n on in front of place m
abbrev pub IsFresh : List Event → ℕ → ℕ → ℕ → Type 0
IsFresh L r n m = (l : ℕ) (q : StreamNo) (t : ℕ) → n ≤ l → l < m → ¬ (NotesAt L l q (Acquire r t))

-- what is kept of the events from place n on: by when the leases of each stream are canceled, and by when those behind each row
pub record WalksBack (streams owned f : Index) (L : List Event) (n : ℕ) : Type 0 where
  pub latest : (k : StreamNo) (i j s : ℕ) → n ≤ i → NotesAt L i k (Lease j s) → cancel_of f j ≤ latest_of streams (number_of k)
  pub rows : (k : StreamNo) (m r t : ℕ) → n ≤ m → NotesAt L m k (Acquire r t) → IsFresh L r n m → (u : ℕ) × (place_of owned (Acquired r) ≡ Some u) × IsUntil f L k m u

-- where a row is first acquired, the leases that its stream notes behind it are canceled by the place that is kept
abbrev pub Settles : Index → Index → List Event → Type 0
Settles x f L = (k : StreamNo) (m r t : ℕ) → NotesAt L m k (Acquire r t) → IsFresh L r 0 m → (u : ℕ) × (place_of x (Acquired r) ≡ Some u) × IsUntil f L k m u
