-- The devices of a stream by their places, beside the tree that has those that were opened.
use Rattle.std.specs.Prelude.{◌≡◌, ℕ, suc, ◌+◌, ◌-◌, ◌⊎◌, Bool, true, false, nat_eq, if◌then◌else◌, List, [], ◌∷◌, ◌++◌, length, Option, Some, None}
use Rattle.chunk_core.specs.declared.code.Exit.{Exit}
use Rattle.chunk_core.specs.Lists.{IsAmong}
use Rattle.device_port.specs.Device.{DeviceTold}
use Rattle.device_port.specs.declared.device.Mode.TheVariants as mode
use Rattle.pull_nodes.specs.Runs.{IsUnwritten}
use Rattle.pull_turns.specs.Around.{Around}
use Rattle.res_ledger.specs.Ledger.{Covers, LiesWithin, Notes}
use Rattle.res_ledger.specs.declared.event.What.TheVariants.{Close}
use Rattle.res_ledger.specs.Order.{firsts}
use Rattle.res_ledger.specs.Own.{opens, rows}
use Rattle.row_seat.specs.Views.{HasRow, IsWithin}
use Rattle.scope_tree.specs.declared.branch.Spent.{Spent}
use Rattle.scope_tree.specs.Calls.{IsOpenScope, Seen, used}
use Rattle.scope_tree.specs.Released.{said}
use Rattle.scope_tree.specs.Trace.{owed, trace}
use Rattle.tree_laws.specs.Alone.{StaysAlone}
use Rattle.tree_laws.specs.Called.{Called}

-- what is told of a place without a device
abbrev pub blank : DeviceTold
blank = record {
  number = 0;
  place = record { path = []; mode = mode.Read };
  present = None;
  content = None;
  at = 0;
  ended = false;
  written = None;
  is_open = false;
  opens = 0;
  closes = 0;
  exit = None;
  open_faults = 0;
  read_faults = 0;
  write_faults = 0;
  close_faults = 0;
}

-- a device that nothing was done with
pub record IsUnused (d : DeviceTold) : Type 0 where
  pub is_open : d.is_open ≡ false
  pub opens : d.opens ≡ 0
  pub closes : d.closes ≡ 0
  pub exit : d.exit ≡ None
  pub at : d.at ≡ 0
  pub written : IsUnwritten d
  pub open_faults : d.open_faults ≡ 0
  pub read_faults : d.read_faults ≡ 0
  pub write_faults : d.write_faults ≡ 0
  pub close_faults : d.close_faults ≡ 0

-- a device that was never open
pub record IsUnopened (d : DeviceTold) : Type 0 where
  pub is_open : d.is_open ≡ false
  pub opens : d.opens ≡ 0
  pub closes : d.closes ≡ 0
  pub exit : d.exit ≡ None
  pub close_faults : d.close_faults ≡ 0

-- a device that was opened once and closed once, with this exit and this answer
pub record IsClosedDevice (d : DeviceTold) (x : Exit) (ok : Bool) : Type 0 where
  pub is_open : d.is_open ≡ false
  pub opens : d.opens ≡ 1
  pub closes : d.closes ≡ 1
  pub exit : d.exit ≡ Some x
  pub answer : ok ≡ nat_eq d.close_faults 0

-- the same device, whatever was done with it
pub record SameDevice (d e : DeviceTold) : Type 0 where
  pub number : e.number ≡ d.number
  pub place : e.place ≡ d.place
  pub present : e.present ≡ d.present
  pub content : e.content ≡ d.content

-- what callers see of a stream's resources: the tree, and the devices that weren't acquired, in the slots of the places from `from` on
pub record Site (V : Type 0) : Type 0 where
  pub tree : Seen V
  pub from : ℕ
  pub slots : List (Option V)

module _ {V : Type 0} where
  -- what the slot of the place p has, where the slots are those of the places from i on
  abbrev pub slot_of : ℕ → ℕ → List (Option V) → Option (Option V)
  slot_of p i [] = None
  slot_of p i (x ∷ xs) = if nat_eq i p then Some x else slot_of p (suc i) xs

  -- the rows that ended, with their payloads
  abbrev pub pays : List (Spent V) → List (ℕ × V)
  pays [] = []
  pays (x ∷ xs) = (x.row, x.pay) ∷ pays xs

  -- the payload of the row r
  abbrev pub pay_in : ℕ → List (ℕ × V) → Option V
  pay_in r [] = None
  pay_in r (x ∷ xs) = if nat_eq x.0 r then Some x.1 else pay_in r xs

  -- the payload of a row that is open in the tree, or ended there
  abbrev pub pay_of : Seen V → ℕ → Option V
  pay_of a r = pay_in r (a.seat.opened ++ pays a.shelf)

  -- p is a place of the stream
  abbrev pub IsPlace : Site V → ℕ → Type 0
  IsPlace x p = IsWithin x.from (x.from + length x.slots) p

  -- what the slot of the place p has: the device, which waits, or nothing, where it was acquired
  abbrev pub slot : Site V → ℕ → Option (Option V)
  slot x p = slot_of p x.from x.slots

  module _ (told : V → DeviceTold) where
    abbrev pub told_or : Option V → DeviceTold
    told_or (Some d) = told d
    told_or None = blank

    -- what the device in a slot tells; where the slot is empty, what the tree's tells
    abbrev pub told_by : Option (Option V) → Option V → DeviceTold
    told_by None o = blank
    told_by (Some (Some d)) o = told d
    told_by (Some None) o = told_or o

    -- what the device of the place p tells
    abbrev pub told_at : Site V → ℕ → DeviceTold
    told_at x p = told_by (slot x p) (pay_of x.tree p)

    -- what a node is run over
    abbrev pub around : Site V → Around
    around x = record {
      told = told_at x;
      opened = IsOpenScope x.tree;
      closed = λ s e. Notes x.tree.seat.events x.tree.seat.by (Close s e);
      within = LiesWithin x.tree.seat.events x.tree.seat.by;
      waits = λ p. (d : V) × (slot x p ≡ Some (Some d)) × IsUnused (told d);
      holds = λ p k. IsAmong (p, k) (rows (trace x.tree.seat)) × HasRow x.tree.seat.opened p;
      events = x.tree.seat.spare - owed x.tree.seat;
      scopes = x.tree.scopes - (length (opens (trace x.tree.seat)) + 1);
      rows = x.tree.rows - used x.tree;
    }

    -- the row r ended here, with a device that was opened, and closed with the exit that the row's finalizer was told
    abbrev pub HasEnded : Seen V → ℕ → Type 0
    HasEnded a r = (x : Spent V) × IsAmong x a.shelf × (x.row ≡ r) × IsClosedDevice (told x.pay) x.exit x.ok

    -- each place's device waits and its row is empty, or its row is open or ended; no row else is open, and no lease keeps an open one
    pub record InOrder (x : Site V) : Type 0 where
      pub places : (r : ℕ) → HasRow x.tree.seat.opened r → slot x r ≡ Some None
      pub opened : (r : ℕ) (d : V) → IsAmong (r, d) x.tree.seat.opened → (told d).is_open ≡ true
      pub bare : (j r : ℕ) → HasRow x.tree.seat.opened r → ¬ (Covers x.tree.seat.events j x.tree.seat.by r)
      pub waits : (p : ℕ) (d : V) → slot x p ≡ Some (Some d) → IsAmong p x.tree.seat.empty × IsUnopened (told d)
      pub gone : (p : ℕ) → slot x p ≡ Some None → HasRow x.tree.seat.opened p ⊎ HasEnded x.tree p

    -- all that was done to the tree is calls that leave it alone, what ended is of places, no place has another device, and no slot was filled again
    pub record Since (ends : V → Exit → Bool → V → Type 0) (x y : Site V) : Type 0 where
      pub calls : Called ends x.tree [] y.tree
      pub alone : StaysAlone x.tree.seat y.tree.seat
      pub shelf : (s : Spent V) → IsAmong s y.tree.shelf → IsAmong s x.tree.shelf ⊎ IsPlace x s.row
      pub from : y.from ≡ x.from
      pub places : length y.slots ≡ length x.slots
      pub same : (p : ℕ) → SameDevice (told_at x p) (told_at y p)
      pub taken : (p : ℕ) → slot x p ≡ Some None → slot y p ≡ Some None

    -- of the places from i to n - 1, which tell w, each device wasn't opened and is the next of these, and its row isn't on the shelf, or it ended there
    pub data Parted (w : ℕ → DeviceTold) (shelf : List (Spent V)) (n : ℕ) : ℕ → List V → Type 0 where
      none : Parted w shelf n n []
      unopened : {i : ℕ} {ds : List V} (d : V) → told d ≡ w i → IsUnopened (w i) → ¬ (IsAmong i (firsts (said shelf))) → Parted w shelf n (suc i) ds → Parted w shelf n i (d ∷ ds)
      ended : {i : ℕ} {ds : List V} (x : Spent V) → IsAmong x shelf → x.row ≡ i → told x.pay ≡ w i → IsClosedDevice (w i) x.exit x.ok → Parted w shelf n (suc i) ds → Parted w shelf n i ds
