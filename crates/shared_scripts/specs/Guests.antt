-- The seats that the threads of a crowd take with them.
use Rattle.std.specs.Prelude.{◌≡◌, ◌≢◌, ℕ, ◌-◌, ◌*◌, ◌≤◌, List, length, vec_len}
use Rattle.res_ledger.specs.declared.event.Event.{Event}
use Rattle.res_ledger.specs.declared.event.StreamNo.TheVariants.{Inner, Outer}
use Rattle.res_ledger.specs.Ledger.{IsAcquired, IsCanceled, IsFinalized, IsLeased, IsLegal, IsStamped}
use Rattle.row_shared.specs.declared.seat.SharedSeat.{SharedSeat}
use Rattle.row_shared.specs.declared.seat.TableRef.{TableRef}
use Rattle.row_shared.specs.Seats.{SharedFits, shown}
use Rattle.shared_scripts.specs.declared.races.Bell.{Bell}
use Rattle.shared_scripts.specs.declared.crowds.Guest.{Guest}
use Rattle.shared_scripts.specs.declared.crowds.Host.{Host}
use Rattle.shared_scripts.specs.Crowds.{IsHost, IsLiving}

-- the stream has all its rows to come, with a payload for each, and a handle that a main seat fits
pub record IsReady (g : Guest) : Type 0 where
  pub fits : SharedFits g.seat g.desk
  pub stream : (1 ≤ g.stream) × (g.stream ≤ 8)
  pub living : IsLiving (shown g.seat) g.stream (64 * g.stream - 56)
  pub pays : vec_len g.pays ≡ 64
  pub other : SharedSeat Bell
  pub named : (shown other).by ≡ Outer
  pub beside : SharedFits other g.desk

-- the seat that comes back fits each handle that it fitted
abbrev pub ComesHome : SharedSeat Bell → SharedSeat Bell → Type 0
ComesHome s t = (d : TableRef Bell) → SharedFits s d → SharedFits t d

-- the streams from j on are to come
pub record IsHosting (h : Host) (j : ℕ) : Type 0 where
  pub fits : SharedFits h.seat h.desk
  pub stream : (1 ≤ j) × (j ≤ 9)
  pub host : IsHost (shown h.seat) (shown h.seat).out 8 0 j

-- what was done with the one handle leaves the fit of the seats of the streams before j
abbrev pub EarlierFit : ℕ → TableRef Bell → TableRef Bell → Type 0
EarlierFit j old new = (s : SharedSeat Bell) → (shown s).by ≢ Outer → ((k : ℕ) → j ≤ k → (shown s).by ≢ Inner k) → SharedFits s old → SharedFits s new

-- legal, with each row that was acquired finalized and each lease cancelled
pub record IsEndedLedger (L : List Event) : Type 0 where
  pub stamped : IsStamped L
  pub legal : IsLegal L
  pub ended : (r : ℕ) → IsAcquired L r → IsFinalized L r
  pub canceled : (j : ℕ) → IsLeased L j → IsCanceled L j
