-- Where a rotation stops.
use Rattle.std.specs.Prelude.{◌≡◌, ◌≢◌, take, ◌+◌, ◌*◌, ◌<◌, ◌≤◌, ◌-◌, ℕ, suc, List, ◌++◌, length, Option, Result, Ok, Err}
use Rattle.device_port.specs.Device.{DeviceTold}
use Rattle.device_port.specs.Depot.{DepotTold}
use Rattle.scope_tree.specs.Calls.{Seen}
use Rattle.hot_swap.specs.declared.swap.Held.{Held}
use Rattle.rotate_rules.specs.Pieces.{IsFront, most_files, piece_of}
use Rattle.rotate_files.specs.declared.stop.Stop.{Stop}
use Rattle.rotate_files.specs.declared.stop.Stop.TheVariants as stop
use Rattle.rotate_files.specs.Rotating.{IsInStep, IsRotating, last_piece}
use Rattle.rotate_files.specs.Told.{HasMade, file_place, unopened_device}

module _ {V : Type 0} (told : V → DeviceTold) (old : DepotTold) (prefix : List ℕ) (n : ℕ) (path : List ℕ) where
  -- the device of the next file was made and couldn't be opened
  pub record IsUnopened (a : Seen V) (h : Option Held) (now : DepotTold) (files : ℕ) (given : List ℕ) (src d : V) : Type 0 where
    pub rotating : IsRotating told old prefix n a h files given (last_piece n given files) 0 src
    pub few : files < most_files
    pub made : HasMade old path prefix (suc files) now
    pub count : length given ≡ files * n
    pub device : told d ≡ unopened_device old (suc files) (file_place prefix files)

  -- a write of the last file failed, which was written a front of its piece
  pub record IsUnwritten (a : Seen V) (h : Option Held) (now : DepotTold) (files : ℕ) (given : List ℕ) (src : V) : Type 0 where
    pub written : List ℕ
    pub rotating : IsRotating told old prefix n a h (suc files) given written 1 src
    pub made : HasMade old path prefix (suc files) now
    pub front : IsFront written (piece_of n given files)
    pub some : files * n < length given
    pub most : length given ≤ suc files * n

  -- what stopped it, where these bytes were given to files
  abbrev pub StopsSo : Seen V → Option Held → DepotTold → List ℕ → V → Stop V → Type 0
  StopsSo a h now given src (stop.Unopened d) = (files : ℕ) × IsUnopened a h now files given src d
  StopsSo a h now given src stop.Unwritten = (files : ℕ) × IsUnwritten a h now files given src
  StopsSo a h now given src stop.TooMany = IsInStep told old prefix n path a h now most_files 0 given src
  StopsSo a h now given src stop.Memory = (files : ℕ) × IsInStep told old prefix n path a h now files 0 given src
  StopsSo a h now given src stop.Unread = ⊥

  -- a front of these bytes was given to files, and where there were too many a proper one
  pub record StopsWithin (a : Seen V) (h : Option Held) (now : DepotTold) (given bytes : List ℕ) (src : V) (s : Stop V) : Type 0 where
    pub taken : List ℕ
    pub rest : List ℕ
    pub bytes_are : bytes ≡ taken ++ rest
    pub some : s ≡ stop.TooMany → 0 < length rest
    pub stops : StopsSo a h now (given ++ taken) src s

  -- all of these bytes were given, and the last file isn't full by more than it takes, or it is told why not
  abbrev pub GivesAll : {T : Type 0} → Seen V → Option Held → DepotTold → ℕ → ℕ → List ℕ → List ℕ → V → Result T (Stop V) → Type 0
  GivesAll a h now files left given bytes src (Ok _) = IsInStep told old prefix n path a h now files left (given ++ bytes) src
  GivesAll a h now files left given bytes src (Err s) = StopsWithin a h now given bytes src s

  -- the next file is there, of which nothing is written, or it is told why not
  abbrev pub NextFile : {T : Type 0} → Seen V → Option Held → DepotTold → ℕ → List ℕ → V → Result T (Stop V) → Type 0
  NextFile a h now files given src (Ok _) = IsInStep told old prefix n path a h now files n given src
  NextFile a h now files given src (Err s) = (s ≢ stop.Unwritten) × StopsSo a h now given src s

  -- a front of these bytes was given, or it is told why not
  abbrev pub GivesSome : Seen V → Option Held → DepotTold → ℕ → ℕ → List ℕ → List ℕ → V → Result ℕ (Stop V) → Type 0
  GivesSome a h now files left given bytes src (Ok k) = IsInStep told old prefix n path a h now files left (given ++ take k bytes) src
  GivesSome a h now files left given bytes src (Err s) = StopsWithin a h now given bytes src s
