-- A row in a scope of its own, from its Open to its end.
use Rattle.std.specs.Prelude.{◌≡◌, ℕ, ◌+◌, ◌<◌, ◌≤◌, ◌⊎◌, Bool}
use Rattle.chunk_core.specs.declared.code.Exit.TheVariants.{Succeeded}
use Rattle.chunk_core.specs.Lists.{IsAmong}
use Rattle.res_ledger.specs.declared.event.Event.{Event}
use Rattle.res_ledger.specs.declared.event.What.{What}
use Rattle.res_ledger.specs.declared.event.What.TheVariants.{Acquire, Close, Lease, Open}
use Rattle.res_ledger.specs.Ledger.{IsUsable, Notes}
use Rattle.row_seat.specs.declared.view.Left.TheVariants.{Stays, Yours}
use Rattle.row_seat.specs.declared.view.View.{View}
use Rattle.row_seat.specs.Views.{ClosesRow, HasRow, LeavesRow, noted, placed}
use Rattle.shared_scripts.specs.Races.{IsEnded}

-- an event of scopes up to o under the root, of rows below a, each row in the scope above its number, of leases for streams below l, or of closed scopes up to c, the root not among them
abbrev pub IsPast : ℕ → ℕ → ℕ → ℕ → What → Type 0
IsPast o a l c (Open s p) = (1 ≤ s) × (s ≤ o) × (p ≡ 0)
IsPast o a l c (Acquire r s) = (r < a) × (s ≡ r + 1)
IsPast o a l c (Lease j s) = j < l
IsPast o a l c (Close s how) = (1 ≤ s) × (s ≤ c)
IsPast o a l c w = Unit {0}

module _ {P : Type 0} where
  -- each event of the seat is such a one
  abbrev pub AllPast : View P → ℕ → ℕ → ℕ → ℕ → Type 0
  AllPast v o a l c = (e : Event) → IsAmong e v.events → IsPast o a l c e.what

  -- the seat v noted x, with the stamp n
  abbrev pub with_note : View P → ℕ → What → View P
  with_note v n x = noted v (record { stamp = n; by = v.by; what = x })

  -- the row r is empty, and no event is of it or a later row, or of the scope above its number
  abbrev pub CanOpenRow : View P → ℕ → Type 0
  CanOpenRow v r = (l : ℕ) × AllPast v r r l r × IsAmong r v.empty × (2 ≤ v.spare)

  -- its scope was opened and it was acquired, at these stamps, and placed
  abbrev pub with_row_open : View P → ℕ → P → ℕ → ℕ → View P
  with_row_open v r p m n = placed (with_note (with_note v m (Open (r + 1) 0)) n (Acquire r (r + 1))) r p

  -- so, at some stamps
  abbrev pub OpensRow : View P → ℕ → P → View P → Type 0
  OpensRow v r p w = (m n : ℕ) × (w ≡ with_row_open v r p m n)

  -- the row r is open in its scope, which may be closed
  abbrev pub CanShutRow : View P → ℕ → Type 0
  CanShutRow v r = HasRow v.opened r × Notes v.events v.by (Acquire r (r + 1)) × IsUsable v.events v.by (r + 1) × ((j : ℕ) → IsAmong (j, r) v.pairs → (s : ℕ) × Notes v.events v.by (Lease j s)) × ¬ (IsAmong r v.taken) × (2 ≤ v.spare)

  -- the row was handed over in u, and then taken, and its end noted
  abbrev pub EndsFrom : View P → ℕ → View P → Type 0
  EndsFrom u r w = (ok : Bool) × IsEnded u r ok w

  -- its scope was closed, and then it: it stays for a lease, or was handed over and ended
  abbrev pub ShutsRow : View P → ℕ → View P → Type 0
  ShutsRow v r w = (n : ℕ) × (ClosesRow (with_note v n (Close (r + 1) Succeeded)) r Stays w ⊎ ((u : View P) × ClosesRow (with_note v n (Close (r + 1) Succeeded)) r Yours u × EndsFrom u r w))

  -- the lease for j on the row r is gone: the row stays for another, or was handed over and ended
  abbrev pub QuitsRow : View P → ℕ → ℕ → View P → Type 0
  QuitsRow v j r w = LeavesRow v j r Stays w ⊎ ((u : View P) × LeavesRow v j r Yours u × EndsFrom u r w)
