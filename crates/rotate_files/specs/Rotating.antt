-- How far a rotation has come.
use Rattle.std.specs.Prelude.{◌≡◌, ◌+◌, ◌-◌, ◌*◌, ◌<◌, ◌≤◌, ℕ, zero, suc, List, [], ◌∷◌, length, Option, Some, None}
use Rattle.chunk_core.specs.Lists.{IsAmong}
use Rattle.chunk_core.specs.declared.code.Exit.TheVariants.{Succeeded}
use Rattle.device_port.specs.Device.{DeviceTold}
use Rattle.device_port.specs.Depot.{DepotTold}
use Rattle.res_ledger.specs.declared.event.StreamNo.TheVariants.{Inner}
use Rattle.res_ledger.specs.declared.event.What.{What}
use Rattle.res_ledger.specs.declared.event.What.TheVariants.{Acquire}
use Rattle.res_ledger.specs.Own.{opens}
use Rattle.scope_tree.specs.declared.branch.Spent.{Spent}
use Rattle.scope_tree.specs.Calls.{AtStart, Seen, used}
use Rattle.scope_tree.specs.Trace.{owed, trace}
use Rattle.tree_laws.specs.Alone.{HasNoOthers, StaysAlone}
use Rattle.tree_laws.specs.Called.{Called}
use Rattle.pull_stepper.specs.Held.{FinishesDevice, closed_as}
use Rattle.hot_swap.specs.declared.swap.Held.{Held}
use Rattle.hot_swap.specs.Swaps.{IsHolding}
use Rattle.hot_swap.specs.TwoRows.{NotesSwaps}
use Rattle.rotate_rules.specs.Pieces.{most_files, piece_of}
use Rattle.rotate_files.specs.Told.{HasMade, file_told}

-- the piece that the last of so many files was written
abbrev pub last_piece : ℕ → List ℕ → ℕ → List ℕ
last_piece n given zero = []
last_piece n given (suc i) = piece_of n given i

module _ {V : Type 0} (told : V → DeviceTold) (old : DepotTold) (prefix : List ℕ) (n : ℕ) where
  -- these are the files from i on, each with its piece, closed as succeeded
  abbrev pub AreFinished : List ℕ → ℕ → List (Spent V) → Type 0
  AreFinished given i [] = Unit {0}
  AreFinished given i (x ∷ xs) = (x.row ≡ suc i) × (x.exit ≡ Succeeded) × (told x.pay ≡ closed_as Succeeded x.ok (file_told old prefix i (piece_of n given i) 0)) × AreFinished given (suc i) xs

  -- the file that is read is open, and of so many files the last, which was written this, and so many of its writes failed; those before it ended
  abbrev pub HasLast : Seen V → Option Held → ℕ → List ℕ → ℕ → V → Type 0
  HasLast a h zero written faults src = (h ≡ None) × (a.seat.opened ≡ (0, src) ∷ []) × (a.shelf ≡ [])
  HasLast a h (suc i) written faults src =
      (k : Held) × (cur : V) × (h ≡ Some k) × (k.row ≡ suc i) × (a.seat.opened ≡ (0, src) ∷ (suc i, cur) ∷ []) × (told cur ≡ file_told old prefix i written faults) × (length a.shelf ≡ i)

  -- the file that is read and so many files were opened in turn, by calls of a tree that had room for all
  pub record IsRotating (a : Seen V) (h : Option Held) (files : ℕ) (given written : List ℕ) (faults : ℕ) (src : V) : Type 0 where
    pub first : Seen V
    pub start : AtStart first.seat
    pub others : HasNoOthers first.seat
    pub named : first.seat.by ≡ Inner 0
    pub bare : first.shelf ≡ []
    pub calls : Called (FinishesDevice told) first [] a
    pub alone : StaysAlone first.seat a.seat
    pub holding : IsHolding a h
    pub swaps : List What
    pub noted : trace a.seat ≡ Acquire 0 0 ∷ swaps
    pub swapped : NotesSwaps swaps h
    pub last : HasLast a h files written faults src
    pub finished : AreFinished given 0 a.shelf
    pub empty : (r : ℕ) → files < r → r < 1025 → IsAmong r a.seat.empty
    pub opens : length (opens (trace a.seat)) ≡ files
    pub used : used a ≡ files + 1
    pub scopes : a.scopes ≡ 1025
    pub rows : a.rows ≡ 1025
    pub free : owed a.seat + 4096 ≤ a.seat.spare + 4 * files
    pub few : files ≤ most_files

  -- all that was given is written, and the last file takes so many bytes more
  pub record IsInStep (path : List ℕ) (a : Seen V) (h : Option Held) (now : DepotTold) (files left : ℕ) (given : List ℕ) (src : V) : Type 0 where
    pub rotating : IsRotating a h files given (last_piece n given files) 0 src
    pub made : HasMade old path prefix files now
    pub count : length given + left ≡ files * n
    pub fits : left ≤ n

module _ {V : Type 0} (told : V → DeviceTold) where
  -- it is so for some depot, path, bytes and device
  abbrev pub IsRotation : List ℕ → ℕ → Seen V → Option Held → DepotTold → ℕ → ℕ → Type 0
  IsRotation prefix n a h now files left = (old : DepotTold) × (path : List ℕ) × (given : List ℕ) × (src : V) × IsInStep told old prefix n path a h now files left given src
