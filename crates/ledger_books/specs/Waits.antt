-- The seats of the leases that aren't canceled.
use Rattle.std.specs.Prelude.{◌≡◌, ◌⊎◌, ◌<◌, ◌≤◌, ℕ, suc, true, nat_eq, if◌then◌else◌, List, Some, unwrap_or}
use Rattle.chunk_core.specs.declared.code.Exit.{Exit}
use Rattle.res_ledger.specs.declared.event.StreamNo.{StreamNo}
use Rattle.res_ledger.specs.declared.event.What.TheVariants.{Close, Lease, Open}
use Rattle.res_ledger.specs.declared.event.Event.{Event}
use Rattle.res_ledger.specs.Ledger.{IsCanceled, Notes}
use Rattle.ledger_books.specs.declared.index.Index.{Index}
use Rattle.ledger_books.specs.declared.index.Key.{Key}
use Rattle.ledger_books.specs.declared.index.Key.TheVariants.{Closed, Opened}
use Rattle.ledger_books.specs.declared.rooms.Rooms.{Rooms}
use Rattle.ledger_books.specs.declared.waits.Waits.{Waits}
use Rattle.ledger_books.specs.Key.{place_of, same_key}
use Rattle.ledger_books.specs.Keyed.{NotesAt, number_of}
use Rattle.ledger_books.specs.Peaks.{IsHeap, peak_at}
use Rattle.ledger_books.specs.Rooms.{room_of, seat_of}

-- the seat behind those of the leases of the scope s of the stream with number k
abbrev pub next_of : Waits → ℕ → ℕ → ℕ
next_of w k s = unwrap_or (place_of w.nexts (Opened k s)) 0

-- the same of the parent of s, as it was where s has a Close of its own
abbrev pub until_of : Waits → ℕ → ℕ → ℕ
until_of w k s = unwrap_or (place_of w.shuts (Closed k s)) (next_of w k (room_of w.rooms k s).parent)

-- the room of s lies in that of p, which is told to be its parent
abbrev pub IsWithin : Rooms → ℕ → ℕ → ℕ → Type 0
IsWithin x k s p = ((room_of x k s).parent ≡ p) × ((room_of x k p).from ≤ (room_of x k s).from) × ((room_of x k s).to ≤ (room_of x k p).to)

-- no seat from one to in front of another has a lease that was noted at the place or behind it
abbrev pub HasNone : Waits → ℕ → ℕ → ℕ → Type 0
HasNone w from to at = (x : ℕ) → IsHeap w.peaks → from ≤ x → x < to → x < w.peaks.half → peak_at w.peaks x ≤ at

-- what is kept falls for none, and is no less than that for this one
abbrev pub Raised : Index → Index → Key → ℕ → Type 0
Raised x y q u = ((p : Key) → unwrap_or (place_of x p) 0 ≤ unwrap_or (place_of y p) 0) × (u ≤ unwrap_or (place_of y q) 0)

-- the lease for j has the seat x in the room of s, and no lease sits there
pub record CanSit (w : Waits) (k j s x : ℕ) : Type 0 where
  pub seat : seat_of w.rooms j ≡ Some x
  pub from : (room_of w.rooms k s).from ≤ x
  pub to : x < (room_of w.rooms k s).to
  pub within : x < w.peaks.half
  pub free : IsHeap w.peaks → peak_at w.peaks x ≡ 0

-- the lease for j, which k noted on s at place i, sits down
pub record SitsDown (w v : Waits) (k j s i : ℕ) : Type 0 where
  pub fits : w.fits ≡ true
  pub rooms : v.rooms ≡ w.rooms
  pub shuts : v.shuts ≡ w.shuts
  pub half : v.peaks.half ≡ w.peaks.half
  pub seat : ℕ
  pub can : CanSit w k j s seat
  pub nexts : Raised w.nexts v.nexts (Opened k s) (suc seat)
  pub heap : IsHeap w.peaks → IsHeap v.peaks
  pub peaks : IsHeap w.peaks → (x : ℕ) → x < w.peaks.half → peak_at v.peaks x ≡ (if nat_eq x seat then suc i else peak_at w.peaks x)

abbrev pub Sits : Waits → Waits → ℕ → ℕ → ℕ → ℕ → Type 0
Sits w v k j s i = v.fits ≡ true → SitsDown w v k j s i

-- the lease for j leaves its seat
pub record Leaves (w v : Waits) (j : ℕ) : Type 0 where
  pub fits : v.fits ≡ w.fits
  pub rooms : v.rooms ≡ w.rooms
  pub shuts : v.shuts ≡ w.shuts
  pub nexts : v.nexts ≡ w.nexts
  pub half : v.peaks.half ≡ w.peaks.half
  pub heap : (s : ℕ) → seat_of w.rooms j ≡ Some s → s < w.peaks.half → IsHeap w.peaks → IsHeap v.peaks
  pub peaks : (s x : ℕ) → seat_of w.rooms j ≡ Some s → s < w.peaks.half → IsHeap w.peaks → x < w.peaks.half → peak_at v.peaks x ≡ (if nat_eq x s then 0 else peak_at w.peaks x)

-- s has a Close of its own, and the seat behind those of its parent is kept
pub record Shuts (w v : Waits) (k s : ℕ) : Type 0 where
  pub fits : v.fits ≡ w.fits
  pub rooms : v.rooms ≡ w.rooms
  pub nexts : v.nexts ≡ w.nexts
  pub peaks : v.peaks ≡ w.peaks
  pub shuts : (q : Key) → place_of v.shuts q ≡ (if same_key (Closed k s) q then Some (next_of w k (room_of w.rooms k s).parent) else place_of w.shuts q)

-- the lease for j, which k noted on s at place i, has a seat in the room of s, and sits there until it is canceled
abbrev pub IsSeated : Waits → List Event → ℕ → StreamNo → ℕ → ℕ → Type 0
IsSeated w P i k j s = (x : ℕ) × (seat_of w.rooms j ≡ Some x) × ((room_of w.rooms (number_of k) s).from ≤ x) × (x < (room_of w.rooms (number_of k) s).to) × (x < next_of w (number_of k) s) × (x < w.peaks.half) × (IsCanceled P j ⊎ (peak_at w.peaks x ≡ suc i))

-- k noted a Close of s, and the leases of its parent in front of it have seats in front of z
abbrev pub IsShutAt : Waits → List Event → StreamNo → ℕ → ℕ → Type 0
IsShutAt w P k s z = (m : ℕ) × (y : Exit) × NotesAt P m k (Close s y) × ((i j x : ℕ) → i < m → NotesAt P i k (Lease j (room_of w.rooms (number_of k) s).parent) → seat_of w.rooms j ≡ Some x → x < z)

-- the rooms lie within one another as the scopes do, and each lease that isn't canceled sits in its seat
pub record Seated (w : Waits) (P : List Event) : Type 0 where
  pub heap : IsHeap w.peaks
  pub within : (k : StreamNo) (s p : ℕ) → Notes P k (Open s p) → IsWithin w.rooms (number_of k) s p
  pub leases : (i : ℕ) (k : StreamNo) (j s : ℕ) → NotesAt P i k (Lease j s) → IsSeated w P i k j s
  pub shut : (k : StreamNo) (s z : ℕ) → place_of w.shuts (Closed (number_of k) s) ≡ Some z → IsShutAt w P k s z

-- the same, where the seats fit
abbrev pub HasWaits : Waits → List Event → Type 0
HasWaits w P = w.fits ≡ true → Seated w P
