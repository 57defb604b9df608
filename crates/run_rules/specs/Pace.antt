-- In which order the outer stream gives the inner ones, how far it is ahead of them, and how many of these are open at once.
use Rattle.std.specs.Prelude.{◌≡◌, ◌⊎◌, ℕ, ◌+◌, ◌<◌, ◌≤◌, Bool, ◌&&◌, not, List, [], ◌∷◌, ◌++◌, count_by}
use Rattle.chunk_core.specs.declared.code.Exit.TheVariants.{Succeeded}
use Rattle.res_ledger.specs.declared.event.Event.{Event}
use Rattle.res_ledger.specs.declared.event.StreamNo.TheVariants.{Inner, Outer}
use Rattle.res_ledger.specs.declared.event.What.TheVariants.{Close, Lease}
use Rattle.res_ledger.specs.Ledger.{IsLeased, Notes}
use Rattle.res_ledger.specs.Whole.{is_cancel}
use Rattle.run_rules.specs.Facts.{first_numbers, acts, has_event, holds_number, leased_stream}

-- among the events P are the Lease for the stream k, and the one for the next stream or the Close of the outer's root, which succeeded
pub record IsAnnounced (P : List Event) (k : ℕ) : Type 0 where
  pub lease : (s : ℕ) × Notes P Outer (Lease k s)
  pub next : ((s : ℕ) × Notes P Outer (Lease (k + 1) s)) ⊎ Notes P Outer (Close 0 Succeeded)

-- before each event of an inner stream it was announced
abbrev pub LeasesAhead : List Event → Type 0
LeasesAhead L = (P Q : List Event) (e : Event) (k : ℕ) → L ≡ P ++ e ∷ Q → e.by ≡ Inner k → IsAnnounced P k

-- the streams are leased for in their order
abbrev pub LeasesInOrder : List Event → Type 0
LeasesInOrder L = (P Q : List Event) (e : Event) (i j s : ℕ) → L ≡ P ++ e ∷ Q → e.what ≡ Lease j s → i < j → IsLeased P i

-- the stream k has an event there or before, and its lease no Cancel before
abbrev pub is_active : List Event → Event → ℕ → Bool
is_active P e k = acts (Inner k) (P ++ e ∷ []) && not (has_event (is_cancel k) P)

-- at each event at most `width` of the n inner streams are open
abbrev pub WithinWidth : ℕ → ℕ → List Event → Type 0
WithinWidth width n L = (P Q : List Event) (e : Event) → L ≡ P ++ e ∷ Q → count_by (is_active P e) (first_numbers n) ≤ width

-- the stream k was leased for, and its lease has no Cancel
abbrev pub is_standing : List Event → ℕ → Bool
is_standing L k = has_event (λ w. holds_number (leased_stream w) k) L && not (has_event (is_cancel k) L)

-- the outer stream waits at its limit: at each event the leases of at most `width` of the n inner streams stand, and one more
abbrev pub OuterWaits : ℕ → ℕ → List Event → Type 0
OuterWaits width n L = (P Q : List Event) (e : Event) → L ≡ P ++ e ∷ Q → count_by (is_standing (P ++ e ∷ [])) (first_numbers n) ≤ width + 1

-- the streams begin in their order: before each event of the stream k the leases of all before it but fewer than `width` have their Cancel
abbrev pub BeginInOrder : ℕ → List Event → Type 0
BeginInOrder width L = (P Q : List Event) (e : Event) (k : ℕ) → L ≡ P ++ e ∷ Q → e.by ≡ Inner k → count_by (λ i. not (has_event (is_cancel i) P)) (first_numbers k) < width

-- n streams were given and begun in pace, of which at most `width` are open at once
pub record IsPaced (width n : ℕ) (L : List Event) : Type 0 where
  pub ahead : LeasesAhead L
  pub within : WithinWidth width n L
  pub leases : LeasesInOrder L
  pub waits : OuterWaits width n L
  pub begins : BeginInOrder width L
