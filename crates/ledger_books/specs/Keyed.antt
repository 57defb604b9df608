-- What an audit's index says of the events so far.
use Rattle.std.specs.Prelude.{◌≡◌, ◌⊎◌, ◌<◌, ◌≤◌, ℕ, suc, Bool, true, false, List, [], ◌∷◌, ◌++◌, length, None, Some, is_some, if◌then◌else◌, slice_get}
use Rattle.chunk_core.specs.Lists.{IsAmong}
use Rattle.res_ledger.specs.declared.event.StreamNo.{StreamNo}
use Rattle.res_ledger.specs.declared.event.StreamNo.TheVariants.{Outer, Inner}
use Rattle.res_ledger.specs.declared.event.What.{What}
use Rattle.res_ledger.specs.declared.event.What.TheVariants.{Open, Acquire, Lease, Cancel, Close, Final}
use Rattle.res_ledger.specs.declared.event.Event.{Event}
use Rattle.res_ledger.specs.Ledger.{IsCoveredBy, Covers, IsLegal}
use Rattle.chunk_core.specs.declared.code.Exit.{Exit}
use Rattle.ledger_books.specs.declared.index.Key.{Key}
use Rattle.ledger_books.specs.declared.index.Key.TheVariants.{Begun, Opened, Closed, Acquired, Leased, Canceled, Finalized}
use Rattle.ledger_books.specs.declared.index.Index.{Index}
use Rattle.ledger_books.specs.Key.{place_of, same_key}

-- the number that tells a stream in a key
abbrev pub number_of : StreamNo → ℕ
number_of Outer = 0
number_of (Inner k) = suc k

-- the key of what k noted
abbrev pub key_of : StreamNo → What → Key
key_of k (Open s p) = Opened (number_of k) s
key_of k (Acquire r s) = Acquired r
key_of k (Lease j s) = Leased j
key_of k (Cancel j x) = Canceled j
key_of k (Close s x) = Closed (number_of k) s
key_of k (Final r x ok) = Finalized r

-- the event has the key
abbrev pub HasKey : Event → Key → Type 0
HasKey e q = (key_of e.by e.what ≡ q) ⊎ (Begun (number_of e.by) ≡ q)

-- the index tells a place for each key that an event has, and the event there has it
pub record Indexes (x : Index) (P : List Event) : Type 0 where
  pub found : (q : Key) (i : ℕ) → place_of x q ≡ Some i → (e : Event) × (slice_get P i ≡ Some e) × HasKey e q
  pub missing : (q : Key) → place_of x q ≡ None → (e : Event) → IsAmong e P → ¬ (HasKey e q)

-- k noted w at place i
abbrev pub NotesAt : List Event → ℕ → StreamNo → What → Type 0
NotesAt P i k w = (e : Event) × (slice_get P i ≡ Some e) × (e.by ≡ k) × (e.what ≡ w)

-- an acquisition, or a lease
abbrev pub is_acquire : What → Bool
is_acquire (Acquire r s) = true
is_acquire w = false

abbrev pub is_lease : What → Bool
is_lease (Lease j s) = true
is_lease w = false

-- the list has the places of the events that pass, in order
pub record Listed (p : What → Bool) (xs : List ℕ) (P : List Event) : Type 0 where
  pub stands : (n i : ℕ) → slice_get xs n ≡ Some i → (e : Event) × (slice_get P i ≡ Some e) × (p e.what ≡ true)
  pub all : (i : ℕ) (e : Event) → slice_get P i ≡ Some e → p e.what ≡ true → (n : ℕ) × (slice_get xs n ≡ Some i)
  pub rises : (m n i j : ℕ) → slice_get xs m ≡ Some i → slice_get xs n ≡ Some j → m < n → i < j

-- the place of Begun is that of the first event of the stream
abbrev pub IsFirst : Index → List Event → Type 0
IsFirst x P = (k : StreamNo) (i m : ℕ) (f : Event) → place_of x (Begun (number_of k)) ≡ Some i → slice_get P m ≡ Some f → f.by ≡ k → i ≤ m

-- the key has a place and the index stays, or this one is added
abbrev pub KeepsFirst : Index → Index → Key → ℕ → Type 0
KeepsFirst x y p i = ((y ≡ x) × (is_some (place_of x p) ≡ true)) ⊎ ((place_of x p ≡ None) × ((q : Key) → place_of y q ≡ (if same_key p q then Some i else place_of x q)))

-- k notes no Close of s in front of place i
abbrev pub IsUnclosedBefore : List Event → StreamNo → ℕ → ℕ → Type 0
IsUnclosedBefore P k s i = (m : ℕ) (x : Exit) → NotesAt P m k (Close s x) → i ≤ m

-- a lease by k on s at place i covers the row r
abbrev pub CoversAt : List Event → ℕ → StreamNo → ℕ → ℕ → Type 0
CoversAt P i k s r = (A B : List Event) × (e : Event) × (P ≡ A ++ e ∷ B) × (length A ≡ i) × IsCoveredBy A k s r

-- the lease for j covers the row r
abbrev pub IsSomeCover : List Event → ℕ → ℕ → Type 0
IsSomeCover P j r = (k : StreamNo) × Covers P j k r

-- the events in front of place i are legal, and with the event at it they aren't
abbrev pub IsFirstIllegal : List Event → ℕ → Type 0
IsFirstIllegal L i = (P Q : List Event) × (e : Event) × (L ≡ P ++ e ∷ Q) × (length P ≡ i) × IsLegal P × ¬ (IsLegal (P ++ e ∷ []))
