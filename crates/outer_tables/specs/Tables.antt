-- What reading tables does.
use Rattle.std.specs.Prelude.{◌≡◌, ℕ, ◌+◌, ◌<◌, Bool, List, [], ◌∷◌, ◌++◌, length, take, None, Option, Result, IfOk}
use Rattle.std.specs.List.{AllByRecursion}
use Rattle.std.specs.FinMap.{get}
use Rattle.std.specs.Result.{result_err}
use Rattle.chunk_core.specs.Lists.{IsAmong}
use Rattle.chunk_core.specs.declared.code.Exit.{Exit}
use Rattle.csv_pipes.specs.Dictionaries.{Dictionary, table_value}
use Rattle.device_port.specs.Device.{DeviceTold}
use Rattle.device_port.specs.Depot.{DepotTold, IsUnknown}
use Rattle.join_tree.specs.Mains.{IsMain}
use Rattle.join_tree.specs.Progress.{Progress, reading}
use Rattle.res_ledger.specs.declared.event.What.TheVariants.{Acquire}
use Rattle.scope_tree.specs.Calls.{Seen}
use Rattle.outer_tables.specs.declared.not_read.NotRead.{NotRead}
use Rattle.outer_tables.specs.Devices.{MakesDevices}
use Rattle.outer_tables.specs.Outcomes.{AreOf, ComeOut}
use Rattle.outer_tables.specs.Rows.{AcquiresRows, acquires}

module _ {V : Type 0} (told : V → DeviceTold) (ends : V → Exit → Bool → V → Type 0) where
  -- The tables at these paths were read in order in the scope s, as the rows from r on, up to the last or up to one that wasn't read. For each that was tried a device
  -- was made: it stands open in its row, or came back.
  pub record TriesTables (s r : ℕ) (paths : List (List ℕ)) (old new : DepotTold) (a b : Seen V) (why : Option NotRead) : Type 0 where
    pub devices : List V
    pub back : List DeviceTold
    pub contents : List (List ℕ)
    pub out : ComeOut told old.files (length old.made) paths devices back contents why
    pub made : MakesDevices old new (take (length devices + length back) paths) back
    pub unknown : AllByRecursion (λ d. IsUnknown (told d).number old.retired) devices
    pub rows : AcquiresRows ends s r devices a b

  -- so one table was read, whose values its dictionary has
  pub record ReadsTable (s r : ℕ) (path : List ℕ) (old new : DepotTold) (a b : Seen V) (result : Result Dictionary NotRead) : Type 0 where
    pub tries : TriesTables s r (path ∷ []) old new a b (result_err result)
    pub dict : IfOk result (λ d. (bytes : List ℕ) × (tries.contents ≡ bytes ∷ []) × ((key : List ℕ) → get d key ≡ table_value bytes key))

  -- All tables were read, and their dictionaries stand behind those that were there, or it is told why not. A main tree that had leased nothing, where it is its root that has the rows, and had acquired rows below these alone, is so much further.
  pub record ReadsTables (s r : ℕ) (paths : List (List ℕ)) (old new : DepotTold) (a b : Seen V) (had have : List Dictionary) (result : Result (Unit {0}) NotRead) : Type 0 where
    pub tries : TriesTables s r paths old new a b (result_err result)
    pub values : IfOk result (λ x. (bss : List (List ℕ)) → AreOf had bss → AreOf have (bss ++ tries.contents))
    pub main : (width n : ℕ) (p : Progress V) → IsMain ends width n a p → p.root ≡ None → (s ≡ 0 → p.leased ≡ 0) → ((q t : ℕ) → IsAmong (Acquire q t) p.tables → q < r) → IsMain ends width n b (reading p (acquires s r (length tries.devices)))
