-- What an outer stream and the streams that it gives noted in one ledger.
use Rattle.std.specs.Prelude.{◌≡◌, ◌⊎◌, ℕ, zero, suc, ◌<◌, ◌≤◌, Bool, nat_eq, List, length, Some, None}
use Rattle.chunk_core.specs.Lists.{IsAmong}
use Rattle.chunk_core.specs.Outcomes.{exit_of}
use Rattle.chunk_core.specs.declared.code.Exit.{Exit}
use Rattle.chunk_core.specs.declared.code.Exit.TheVariants.{Canceled, Succeeded}
use Rattle.chunk_core.specs.declared.code.How.{How}
use Rattle.res_ledger.specs.declared.event.StreamNo.{StreamNo}
use Rattle.res_ledger.specs.declared.event.StreamNo.TheVariants.{Inner, Outer}
use Rattle.res_ledger.specs.declared.event.What.{What}
use Rattle.res_ledger.specs.declared.event.What.TheVariants.{Open, Acquire, Cancel, Close, Final, Lease}
use Rattle.res_ledger.specs.declared.event.Event.{Event}
use Rattle.res_ledger.specs.Ledger.{Notes, NotesClose, IsLegal, IsStamped}
use Rattle.res_ledger.specs.Order.{IsOrdered}
use Rattle.res_ledger.specs.Own.{opens, own}
use Rattle.res_ledger.specs.Whole.{IsComplete}
use Rattle.device_port.specs.Device.{DeviceTold}
use Rattle.run_rules.specs.Facts.{leased_stream}
use Rattle.run_rules.specs.Giving.{GivesInOrder}
use Rattle.run_rules.specs.Pace.{IsPaced}
use Rattle.run_rules.specs.Work.{Opener, opener_places}

-- what the outer stream may note that ended so: it acquires its t rows and ends some of them, opens scopes, leases one for one of n streams, closes its root as it ended and
-- its other scopes since it goes on, and cancels a lease as of a stream that wasn't begun
abbrev pub IsOuterNote : ℕ → ℕ → How → What → Type 0
IsOuterNote t n how (Open s p) = Unit {0}
IsOuterNote t n how (Acquire r s) = r < t
IsOuterNote t n how (Final r x ok) = r < t
IsOuterNote t n how (Lease j s) = j < n
IsOuterNote t n how (Close zero x) = x ≡ exit_of how
IsOuterNote t n how (Close (suc s) x) = x ≡ Succeeded
IsOuterNote t n how (Cancel j x) = x ≡ Canceled

-- what the outer stream noted of its t rows: it acquired those whose devices were opened, and the rows that it ended it ended as these were closed
pub record AreTablesKept (t : ℕ) (w : ℕ → DeviceTold) (L : List Event) : Type 0 where
  pub acquired : (r s : ℕ) → Notes L Outer (Acquire r s) → (w r).opens ≡ 1
  pub each : (r : ℕ) → r < t → (w r).opens ≡ 1 → (s : ℕ) × Notes L Outer (Acquire r s)
  pub ended : (r : ℕ) (x : Exit) (ok : Bool) → Notes L Outer (Final r x ok) → ((w r).exit ≡ Some x) × (ok ≡ nat_eq (w r).close_faults 0)

-- a whole ledger of the outer stream, which ended so, and of some of n streams: it gave them in its order, and they were given and begun in pace, of which no more are open than may be
pub record IsJoinedLedger (opener : Opener) (n : ℕ) (how : How) (L : List Event) : Type 0 where
  pub stamped : IsStamped L
  pub legal : IsLegal L
  pub complete : IsComplete L
  pub ordered : IsOrdered L
  pub order : GivesInOrder opener n L
  pub paced : IsPaced opener.max_open n L
  pub names : (e : Event) → IsAmong e L → (e.by ≡ Outer) ⊎ ((k : ℕ) × (k < n) × (e.by ≡ Inner k))
  pub outer_notes : (e : Event) → IsAmong e L → e.by ≡ Outer → IsOuterNote (length (opener_places opener)) n how e.what
  pub root : NotesClose L Outer 0

-- k noted a Close of its root with a stamp below n
abbrev pub ClosesRootBelow : ℕ → List Event → StreamNo → Type 0
ClosesRootBelow n L k = (e : Event) × (x : Exit) × IsAmong e L × (e.by ≡ k) × (e.what ≡ Close 0 x) × (e.stamp < n)

-- What stream k noted that has these rows and ended so: it acquired the rows whose devices were opened, ended its rows and those of tables that it was the last to
-- leave as their devices were closed, leased nothing, opened at most so many scopes, closed its root as it ended, and cancelled no lease but its own, behind that Close and as it ended.
pub record IsShare (k from to scopes : ℕ) (w : ℕ → DeviceTold) (how : How) (L : List Event) : Type 0 where
  pub opened : length (opens (own (Inner k) L)) ≤ scopes
  pub leases : (e : Event) → IsAmong e L → e.by ≡ Inner k → leased_stream e.what ≡ None
  pub acquired : (r s : ℕ) → Notes L (Inner k) (Acquire r s) → (from ≤ r) × (r < to) × ((w r).opens ≡ 1)
  pub each : (r : ℕ) → from ≤ r → r < to → (w r).opens ≡ 1 → (s : ℕ) × Notes L (Inner k) (Acquire r s)
  pub ended : (r : ℕ) (x : Exit) (ok : Bool) → Notes L (Inner k) (Final r x ok) → ((w r).exit ≡ Some x) × (ok ≡ nat_eq (w r).close_faults 0)
  pub closed : NotesClose L (Inner k) 0
  pub exits : (x : Exit) → Notes L (Inner k) (Close 0 x) → x ≡ exit_of how
  pub leaves : (e : Event) (j : ℕ) (x : Exit) → IsAmong e L → e.by ≡ Inner k → e.what ≡ Cancel j x → (j ≡ k) × (x ≡ exit_of how) × ClosesRootBelow e.stamp L (Inner k)
