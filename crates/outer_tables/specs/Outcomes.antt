-- How the tables come out.
use Rattle.std.specs.Prelude.{◌≡◌, ℕ, suc, List, [], ◌∷◌, Option, Some, None, option_and_then}
use Rattle.std.specs.List.{slice_get}
use Rattle.chunk_core.specs.Tables.{Values}
use Rattle.chunk_core.specs.declared.code.Code.{Code}
use Rattle.chunk_core.specs.declared.code.Code.TheVariants as code
use Rattle.std.specs.FinMap.{get}
use Rattle.csv_pipes.specs.Dictionaries.{Dictionary, table_fault, table_value}
use Rattle.device_port.specs.Device.{DeviceTold}
use Rattle.device_port.specs.Depot.{Files}
use Rattle.outer_tables.specs.declared.not_read.NotRead.{NotRead}
use Rattle.outer_tables.specs.declared.not_read.NotRead.TheVariants as why
use Rattle.outer_tables.specs.Devices.{new_device, unopened, when_open}
use Rattle.outer_tables.specs.Whole.{GivesAll, WasRead}

-- each dictionary has the values of one content, in order
abbrev pub AreOf : List Dictionary → List (List ℕ) → Type 0
AreOf [] [] = Unit {0}
AreOf (d ∷ ds) (bytes ∷ bss) = ((key : List ℕ) → get d key ≡ table_value bytes key) × AreOf ds bss
AreOf [] (bytes ∷ bss) = ⊥
AreOf (d ∷ ds) [] = ⊥

-- the values of tables with these contents, by number
abbrev pub values_in : List (List ℕ) → Values
values_in contents t key = option_and_then (λ bytes. table_value bytes key) (slice_get contents t)

module _ {V : Type 0} (told : V → DeviceTold) (files : Option Files) where
  -- How the tables at these paths came out, whose devices have the numbers from n on: the devices ds were opened, and stay so; those of
  -- `back` came back unopened; for the tables behind none was made. The contents are the bytes of the tables that were read and
  -- aren't refused; and the last tells why not all were read, if so.
  pub data ComeOut : ℕ → List (List ℕ) → List V → List DeviceTold → List (List ℕ) → Option NotRead → Type 0 where
    -- no table is left
    none : {n : ℕ} → ComeOut n [] [] [] [] None
    -- the first was read whole and isn't refused, and the others came out
    read : {n : ℕ} {path bytes : List ℕ} {paths bss : List (List ℕ)} {ds : List V} {back : List DeviceTold} {o : Option NotRead} (d : V) → GivesAll (when_open (new_device files n path)) (told d) bytes → table_fault bytes ≡ None → ComeOut (suc n) paths ds back bss o → ComeOut n (path ∷ paths) (d ∷ ds) back (bytes ∷ bss) o
    -- the first could not be opened
    closed : {n : ℕ} {path : List ℕ} {paths : List (List ℕ)} → ComeOut n (path ∷ paths) [] (unopened (new_device files n path) ∷ []) [] (Some (why.Fault code.Open))
    -- a read of it failed, and was the last
    unread : {n : ℕ} {path : List ℕ} {paths : List (List ℕ)} (d : V) → WasRead 1 (when_open (new_device files n path)) (told d) → ComeOut n (path ∷ paths) (d ∷ []) [] [] (Some (why.Fault code.Read))
    -- it was read whole and is refused
    refused : {n : ℕ} {path : List ℕ} {paths : List (List ℕ)} (d : V) (bytes : List ℕ) (f : Code) → GivesAll (when_open (new_device files n path)) (told d) bytes → table_fault bytes ≡ Some f → ComeOut n (path ∷ paths) (d ∷ []) [] [] (Some (why.Fault f))
    -- memory was wanting before its device was made
    unmade : {n : ℕ} {paths : List (List ℕ)} → ComeOut n paths [] [] [] (Some why.Memory)
    -- or behind that
    cut : {n : ℕ} {path : List ℕ} {paths : List (List ℕ)} (d : V) → WasRead 0 (when_open (new_device files n path)) (told d) → ComeOut n (path ∷ paths) (d ∷ []) [] [] (Some why.Memory)
