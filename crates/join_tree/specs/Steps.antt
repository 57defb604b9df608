-- What the calls of a main tree give.
use Rattle.std.specs.Prelude.{◌≡◌, ◌⊎◌, ℕ, ◌+◌, ◌<◌, ◌≤◌, Bool, List, Option, Some, None, Result, Ok, Err}
use Rattle.std.specs.declared.alloc.AllocError.{AllocError}
use Rattle.chunk_core.specs.declared.code.Exit.{Exit}
use Rattle.chunk_core.specs.declared.code.Exit.TheVariants.{Succeeded}
use Rattle.chunk_core.specs.Lists.{IsAmong}
use Rattle.res_ledger.specs.declared.event.Event.{Event}
use Rattle.res_ledger.specs.declared.event.What.TheVariants.{Acquire}
use Rattle.res_ledger.specs.Own.{leased_rows}
use Rattle.row_seat.specs.declared.view.View.{View}
use Rattle.row_seat.specs.Views.{next_stamp}
use Rattle.scope_tree.specs.Calls.{Seen}
use Rattle.scope_tree.specs.declared.leases.Lease.{Lease}
use Rattle.scope_tree.specs.Trace.{owed, trace}
use Rattle.scope_tree.specs.Visible.{lessee, rows_covered}
use Rattle.tree_laws.specs.Lent.{Lent}
use Rattle.join_tree.specs.Guests.{Guest}
use Rattle.join_tree.specs.Mains.{IsMain}
use Rattle.join_tree.specs.Progress.{Progress, closing_root, leasing_next}

module _ {P : Type 0} where
  -- beyond the events that are owed, at most n fewer may be noted
  abbrev pub TakesEvents : ℕ → Seen P → Seen P → Type 0
  TakesEvents n a b = a.seat.spare + owed b.seat ≤ b.seat.spare + n + owed a.seat

  -- no seat went out or came in, and no right to an empty row and no lease that the tree made was lost
  pub record KeepsGuests (a b : Seen P) : Type 0 where
    pub out : b.seat.out ≡ a.seat.out
    pub splits : b.seat.splits ≡ a.seat.splits
    pub empty : (r : ℕ) → IsAmong r a.seat.empty → IsAmong r b.seat.empty
    pub lent : (j : ℕ) (T : List ℕ) → Lent a.seat j T → Lent b.seat j T

  -- what was noted stays noted, what was left in a row stays left, what was handed over stays so, and the payload of an open row stays there or is left in it
  pub record KeepsRows (v w : View P) : Type 0 where
    pub noted : (e : Event) → IsAmong e v.events → IsAmong e w.events
    pub left : (y : ℕ × P) → IsAmong y v.left → IsAmong y w.left
    pub given : (y : ℕ × P) → IsAmong y v.given → IsAmong y w.given
    pub opened : (y : ℕ × P) → IsAmong y v.opened → IsAmong y w.opened ⊎ IsAmong y w.left

  -- the stream j as a guest, whose seat is split off now, with a lease on the rows T
  abbrev pub guest_of : View P → ℕ → List ℕ → Guest
  guest_of v j T = record { stream = j; floor = next_stamp v.events; rows = T }

module _ {P : Type 0} (ends : P → Exit → Bool → P → Type 0) (width n : ℕ) (b c : Seen P) (p : Progress P) where
  -- the scope s was leased for the next stream, with the rows that a lease of it covers, which are those of tables; where memory was wanting nothing was done
  abbrev pub LeasesNext : ℕ → Result Lease AllocError → Type 0
  LeasesNext s (Ok l) = (lessee l ≡ p.leased) × (rows_covered l ≡ leased_rows (trace b.seat) s) × ((r : ℕ) → IsAmong r (rows_covered l) → (t : ℕ) × IsAmong (Acquire r t) p.tables) × IsMain ends width n c (leasing_next p (rows_covered l))
  LeasesNext s (Err e) = c ≡ b

  -- a pull leased the root for the next stream, with the rows that are open in it, which are those of tables, or closed it as no stream was left; where memory was wanting nothing was done
  abbrev pub Pulls : Result (Option Lease) AllocError → Type 0
  Pulls (Ok (Some l)) = (p.leased < n) × (lessee l ≡ p.leased) × (rows_covered l ≡ leased_rows (trace b.seat) 0) × ((r : ℕ) → IsAmong r (rows_covered l) → (s : ℕ) × IsAmong (Acquire r s) p.tables) × IsMain ends width n c (leasing_next p (rows_covered l))
  Pulls (Ok None) = (p.leased ≡ n) × IsMain ends width n c (closing_root p Succeeded)
  Pulls (Err e) = (p.leased < n) × (c ≡ b)
