-- Which streams stood when the outer stream leased and when it closed its root, and whose turn it was.
use Rattle.std.specs.Prelude.{◌≡◌, ◌≢◌, ◌⊎◌, ℕ, suc, ◌<◌, List, Some}
use Rattle.chunk_core.specs.Lists.{IsAmong}
use Rattle.chunk_core.specs.declared.code.Exit.{Exit}
use Rattle.chunk_core.specs.declared.code.Exit.TheVariants.{Canceled}
use Rattle.res_ledger.specs.declared.event.Event.{Event}
use Rattle.res_ledger.specs.declared.event.StreamNo.{StreamNo}
use Rattle.res_ledger.specs.declared.event.StreamNo.TheVariants.{Outer}
use Rattle.res_ledger.specs.declared.event.What.TheVariants.{Cancel, Close, Lease}
use Rattle.row_seat.specs.declared.view.View.{View}
use Rattle.tree_families.specs.Families.{Split}
use Rattle.tree_families.specs.Pace.{NotesBelow}
use Rattle.join_tree.specs.Progress.{Progress}

-- of the streams below j those that aren't among these had the Cancels of their leases below the stamp n
abbrev pub LeftBut : List ℕ → List Event → ℕ → ℕ → Type 0
LeftBut is L n j = (i : ℕ) → i < j → IsAmong i is ⊎ ((k : StreamNo) × (x : Exit) × NotesBelow n L k (Cancel i x))

-- each seat that is out is told to be, and of each Lease and of the Close of the root it is told which streams below that of the next Lease stood then
pub record KeepsOuts {P : Type 0} (out : List ℕ) (ahead : List (ℕ × List ℕ)) (last : List ℕ) (leased : ℕ) (v : View P) : Type 0 where
  pub out_is : (j : ℕ) → IsAmong j v.out → IsAmong j out
  pub leases : (e : Event) (j s : ℕ) → IsAmong e v.events → e.what ≡ Lease j s → (is : List ℕ) × IsAmong (j, is) ahead × LeftBut is v.events e.stamp j
  pub closes : (e : Event) (x : Exit) → IsAmong e v.events → e.by ≡ Outer → e.what ≡ Close 0 x → LeftBut last v.events e.stamp leased

module _ {P : Type 0} (p : Progress P) where
  -- the root was closed, not as one that is stopped, and k is the last that was leased for
  abbrev pub EndedBehind : ℕ → Type 0
  EndedBehind k = (p.leased ≡ suc k) × ((x : Exit) × (p.root ≡ Some x) × (x ≢ Canceled))

  -- the outer stream went on behind k: it leased for the next one, or it ended then
  abbrev pub WentOn : ℕ → Type 0
  WentOn k = (suc k < p.leased) ⊎ EndedBehind k

  -- k had its turn: its seat was split off, or the outer stream went on behind it
  abbrev pub TookTurn : ℕ → Type 0
  TookTurn k = ((m : Split) × IsAmong m p.splits × (m.stream ≡ k)) ⊎ WentOn k

  -- i stood in the turn of k: its seat was out when that of k was split off, or it stood when the outer stream went on behind k
  abbrev pub StoodIn : ℕ → ℕ → Type 0
  StoodIn k i = ((m : Split) × IsAmong m p.splits × (m.stream ≡ k) × IsAmong i m.out) ⊎ ((is : List ℕ) × IsAmong (suc k, is) p.ahead × IsAmong i is) ⊎ (EndedBehind k × IsAmong i p.last)
