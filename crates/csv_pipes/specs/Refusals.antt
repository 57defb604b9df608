-- Why a table's text is refused.
use Rattle.std.specs.Prelude.{◌≡◌, ℕ, ◌<◌, Bool, true, false, List, [], ◌∷◌, ◌++◌, length, Option, Some, None}
use Rattle.std.specs.FinMap.{get}
use Rattle.std.specs.List.{list_any}
use Rattle.chunk_core.specs.declared.code.Code.{Code}
use Rattle.csv_pipes.specs.Dictionaries.{Dictionary, has_long_value, is_first_short, records_fault, value_for}
use Rattle.csv_pipes.specs.declared.table.Draft.{Draft}
use Rattle.csv_pipes.specs.declared.table.TableRefused.{TableRefused}
use Rattle.csv_pipes.specs.declared.table.TableRefused.TheVariants as refused

-- the fault is the cause, or memory was wanted
abbrev pub IsRefusedBy : Option Code → TableRefused → Type 0
IsRefusedBy fault refused.Memory = Unit {0}
IsRefusedBy fault (refused.Data c) = fault ≡ Some c

-- the records have no fault, and the dictionary has their values
abbrev pub IsTable : List (List (List ℕ)) → Dictionary → Type 0
IsTable records dictionary = (records_fault records ≡ None) × ((key : List ℕ) → get dictionary key ≡ value_for key records)

-- what was read is that of these records, which all have two fields and more
pub record IsDraftOf (seen : List (List (List ℕ))) (draft : Draft) : Type 0 where
  pub values : (key : List ℕ) → get draft.dict key ≡ value_for key seen
  pub long : draft.long ≡ list_any has_long_value seen
  pub whole : is_first_short seen ≡ false

-- a record more was taken, or it has fewer than two fields
abbrev pub IsTaken : Bool → List (List (List ℕ)) → List (List ℕ) → Draft → Type 0
IsTaken true seen fields draft = IsDraftOf (seen ++ fields ∷ []) draft
IsTaken false seen fields draft = length fields < 2
