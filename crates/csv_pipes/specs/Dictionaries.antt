-- What a table's text has: values for keys, or a fault.
use Rattle.std.specs.Prelude.{ℕ, Bool, false, List, [], ◌∷◌, length, map, nat_lt, get_or, Option, Some, None, if◌then◌else◌}
use Rattle.std.specs.List.{list_any, slice_get}
use Rattle.std.specs.Str.{is_utf8, bytes_eq}
use Rattle.std.specs.Ordering.{nat_cmp}
use Rattle.std.specs.Cmp.Lexicographic.{slice_cmp}
use Rattle.std.specs.FinMap.{FinMap, from_entries, get}
use Rattle.std.specs.declared.vec.Vec.{Vec}
use Rattle.std.specs.declared.alloc.Global.{Global}
use Rattle.chunk_core.specs.Tables.{Values}
use Rattle.chunk_core.specs.declared.code.Code.{Code}
use Rattle.chunk_core.specs.declared.code.Code.TheVariants as code
use Rattle.pull_nodes.specs.Csv.{is_too_large, is_uneven, records_of}

-- a value for some keys
abbrev pub Dictionary : Type 0
Dictionary = FinMap (slice_cmp nat_cmp) (List ℕ)

-- that of a list of keys and their values
abbrev pub dictionary_of : List (Vec ℕ Global × List ℕ) → Dictionary
dictionary_of entries = from_entries (map (λ e. (e.0.items, e.1)) entries)

-- a value that stands, or else this value where this is the key
abbrev pub value_or : Option (List ℕ) → List ℕ → List ℕ → List ℕ → Option (List ℕ)
value_or None key value other = if bytes_eq key other then Some value else None
value_or (Some stands) key value other = Some stands

-- the value that a dictionary has for a key, or none where there is no dictionary
abbrev pub value_in : Option Dictionary → List ℕ → Option (List ℕ)
value_in None key = None
value_in (Some dictionary) key = get dictionary key

-- the values of the tables that have these dictionaries, and none beyond them
abbrev pub values_of : List Dictionary → Values
values_of dictionaries table = value_in (slice_get dictionaries table)

-- a record's field 0
abbrev pub key_of : List (List ℕ) → List ℕ
key_of fields = get_or fields 0 []

-- a record's field 1
abbrev pub value_of : List (List ℕ) → List ℕ
value_of fields = get_or fields 1 []

-- the value of the first record with the key
abbrev pub value_for : List ℕ → List (List (List ℕ)) → Option (List ℕ)
value_for key [] = None
value_for key (r ∷ rs) = if bytes_eq (key_of r) key then Some (value_of r) else value_for key rs

-- there is a first record, and it has fewer than two fields
abbrev pub is_first_short : List (List (List ℕ)) → Bool
is_first_short [] = false
is_first_short (r ∷ rs) = nat_lt (length r) 2

-- the value has more than 1,024 bytes
abbrev pub has_long_value : List (List ℕ) → Bool
has_long_value r = nat_lt 1024 (length (value_of r))

-- what is wrong with a table's records, the first cause that holds
abbrev pub records_fault : List (List (List ℕ)) → Option Code
records_fault rows =
    if is_first_short rows then Some code.NoField
    else (if is_uneven rows then Some code.Uneven else (if list_any has_long_value rows then Some code.TooLarge else None))

-- what is wrong with a table's text, the first cause that holds
abbrev pub table_fault : List ℕ → Option Code
table_fault xs = if is_too_large xs then Some code.TooLarge else (if is_utf8 xs then records_fault (records_of xs) else Some code.NotUtf8)

-- the value that a table's text has for a key
abbrev pub table_value : List ℕ → List ℕ → Option (List ℕ)
table_value xs key = value_for key (records_of xs)
