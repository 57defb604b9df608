-- What copying a file into files does.
use Rattle.std.specs.Prelude.{◌≡◌, ◌+◌, ◌*◌, ◌<◌, ◌≤◌, ℕ, Bool, true, false, List, [], ◌++◌, length, take, Option, IfSome, Result, Ok, Err}
use Rattle.device_port.specs.Device.{DeviceTold}
use Rattle.device_port.specs.Depot.{DepotTold, content_at}
use Rattle.scope_tree.specs.Calls.{Seen}
use Rattle.hot_swap.specs.declared.swap.Held.{Held}
use Rattle.rotate_rules.specs.Pieces.{IsFront}
use Rattle.rotate_files.specs.declared.stop.Stop.{Stop}
use Rattle.rotate_files.specs.declared.stop.Stop.TheVariants as stop
use Rattle.rotate_files.specs.Rotating.{IsInStep}
use Rattle.rotate_files.specs.Stops.{StopsSo}
use Rattle.rotate_files.specs.Told.{source_told}

module _ {V : Type 0} (told : V → DeviceTold) (old : DepotTold) (path : List ℕ) where
  -- the device that is read has come so far, and these bytes are a front of its content
  pub record IsSource (src : V) (given : List ℕ) (at : ℕ) (ended : Bool) (faults : ℕ) : Type 0 where
    pub device : told src ≡ source_told old path at ended faults
    pub front : IfSome (content_at old.files path) (λ c. IsFront given c)

module _ {V : Type 0} (told : V → DeviceTold) (old : DepotTold) (prefix : List ℕ) (n : ℕ) (path : List ℕ) where
  -- all that was read was given, and the last file isn't full by more than it takes
  pub record IsCopying (a : Seen V) (h : Option Held) (now : DepotTold) (files left : ℕ) (ended : Bool) (faults : ℕ) : Type 0 where
    pub given : List ℕ
    pub src : V
    pub step : IsInStep told old prefix n path a h now files left given src
    pub source : IsSource told old path src given (length given) ended faults
    pub some : left < n

  -- it stopped at a file, where more was read than given
  pub record StopsCopying (a : Seen V) (h : Option Held) (now : DepotTold) (s : Stop V) : Type 0 where
    pub given : List ℕ
    pub rest : List ℕ
    pub src : V
    pub source : IsSource told old path src (given ++ rest) (length (given ++ rest)) false 0
    pub some : s ≡ stop.TooMany → 0 < length rest
    pub stops : StopsSo told old prefix n path a h now given src s

  -- all was copied, or it is told why not
  abbrev pub Copies : {T : Type 0} → Seen V → Option Held → DepotTold → ℕ → ℕ → Result T (Stop V) → Type 0
  Copies a h now files left (Ok _) = (c : IsCopying a h now files left true 0) × IfSome (content_at old.files path) (λ bytes. c.given ≡ bytes)
  Copies a h now files left (Err stop.Unread) = (ended : Bool) × IsCopying a h now files left ended 1
  Copies a h now files left (Err s) = StopsCopying a h now s
