-- Which values the keys of a description may have.
use Rattle.std.specs.Prelude.{◌≡◌, ◌≢◌, ℕ, ◌≤◌, ◌<◌, Bool, true, false, List, [], ◌∷◌, length, codes, Option, Some, None, pos, ℤ}
use Rattle.toml.specs.Data.{Data, Items, Members, as_integer, as_str, as_array, as_table}
use Rattle.chunk_core.specs.Lists.{IsAmong}
use Rattle.pipeline_desc.specs.Limits.{is_name, is_path, is_short, most_groups, most_streams, most_tables}
use Rattle.pipeline_desc.specs.Values.{each_as}
use Rattle.desc_laws.specs.Flaws.{Key, Part}
use Rattle.desc_laws.specs.Flaws.Key.{Version, MaxOpen, Queue, Chunk, Take, Tables, Streams, Groups, Listing, Name, Path, Steps, With, Join, After, OnFault, To, Until, Max}
use Rattle.desc_laws.specs.Flaws.Part.{Top, Group, Table, Stream}
use Rattle.desc_laws.specs.Places.{entries_in, streams_in, value_at}

-- an integer, a text, and an array of entries that are all such
abbrev pub IsInteger : Data → Type 0
IsInteger d = (z : ℤ) × (as_integer d ≡ Some z)

abbrev pub IsText : Data → Type 0
IsText d = (text : List ℕ) × (as_str d ≡ Some text)

abbrev pub IsArrayOf : {A : Type 0} → (Data → Option A) → Data → Type 0
IsArrayOf {A} f d = (items : Items) × (entries : List A) × (as_array d ≡ Some items) × (each_as f items ≡ Some entries)

-- a table
abbrev pub IsTable : Data → Type 0
IsTable d = (ms : Members) × (as_table d ≡ Some ms)

-- the value has the key's type
abbrev pub IsOfType : Key → Data → Type 0
IsOfType Version d = IsInteger d
IsOfType MaxOpen d = IsInteger d
IsOfType Queue d = IsInteger d
IsOfType Chunk d = IsInteger d
IsOfType Take d = IsInteger d
IsOfType Tables d = IsArrayOf as_table d
IsOfType Streams d = IsArrayOf as_table d
IsOfType Groups d = IsArrayOf as_table d
IsOfType Listing d = IsTable d
IsOfType Name d = IsText d
IsOfType Path d = IsText d
IsOfType Steps d = IsArrayOf as_str d
IsOfType With d = IsText d
IsOfType Join d = IsText d
IsOfType After d = IsArrayOf as_str d
IsOfType OnFault d = IsText d
IsOfType To d = IsText d
IsOfType Until d = IsInteger d
IsOfType Max d = IsInteger d

-- the key may not be missing
abbrev pub is_required : Key → Bool
is_required Name = true
is_required Path = true
is_required _ = false

-- the integer is a number from low to high
abbrev pub IsNumber : ℕ → ℕ → Data → Type 0
IsNumber low high d = (n : ℕ) × (as_integer d ≡ Some (pos n)) × (low ≤ n) × (n ≤ high)

-- the text passes a test
abbrev pub IsTextThat : (List ℕ → Bool) → Data → Type 0
IsTextThat test d = (text : List ℕ) × (as_str d ≡ Some text) × (test text ≡ true)

-- a table before table i has this name
abbrev pub HasNameBefore : List ℕ → ℕ → List ℕ → Type 0
HasNameBefore bytes i name = (j : ℕ) × (d : Data) × (j < i) × (value_at bytes (Table j) Name ≡ Some d) × (as_str d ≡ Some name)

-- the text is a name, and no table before table i has it
abbrev pub IsNewName : List ℕ → ℕ → Data → Type 0
IsNewName bytes i d = (name : List ℕ) × (as_str d ≡ Some name) × (is_name name ≡ true) × (HasNameBefore bytes i name → ⊥)

-- the text at `name` is new among those of the tables before
abbrev pub IsNameOf : List ℕ → Part → Data → Type 0
IsNameOf bytes (Table i) d = IsNewName bytes i d
IsNameOf bytes Top d = Unit {0}
IsNameOf bytes (Group g) d = Unit {0}
IsNameOf bytes (Stream k) d = Unit {0}

-- the names of joins
abbrev pub join_names : List (List ℕ)
join_names = codes "append" ∷ codes "zip" ∷ codes "merge" ∷ []

-- the text is the name of a join
abbrev pub IsJoinName : Data → Type 0
IsJoinName d = (name : List ℕ) × (as_str d ≡ Some name) × IsAmong name join_names

-- the integer is the number of a stream, and not of stream k
abbrev pub IsOtherStream : List ℕ → ℕ → Data → Type 0
IsOtherStream bytes k d = (n : ℕ) × (as_integer d ≡ Some (pos n)) × (n < length (streams_in bytes)) × (n ≢ k)

-- the integer at `until` is the number of another stream
abbrev pub IsUntilOf : List ℕ → Part → Data → Type 0
IsUntilOf bytes (Stream k) d = IsOtherStream bytes k d
IsUntilOf bytes Top d = Unit {0}
IsUntilOf bytes (Group g) d = Unit {0}
IsUntilOf bytes (Table i) d = Unit {0}

-- the value is within the key's limits in a part of the description; the steps of an array are looked at one by one
abbrev pub IsWithin : List ℕ → Part → Key → Data → Type 0
IsWithin bytes at Version d = IsNumber 1 2 d
IsWithin bytes at MaxOpen d = IsNumber 1 64 d
IsWithin bytes at Queue d = IsNumber 1 64 d
IsWithin bytes at Chunk d = IsNumber 1 65536 d
IsWithin bytes at Take d = IsNumber 0 1000000000 d
IsWithin bytes at Tables d = length (entries_in as_table (Some d)) ≤ most_tables
IsWithin bytes at Streams d = length (entries_in as_table (Some d)) ≤ most_streams
IsWithin bytes at Groups d = length (entries_in as_table (Some d)) ≤ most_groups
IsWithin bytes at Listing d = Unit {0}
IsWithin bytes at Name d = IsNameOf bytes at d
IsWithin bytes at Path d = IsTextThat is_path d
IsWithin bytes at Steps d = Unit {0}
IsWithin bytes at With d = IsTextThat is_path d
IsWithin bytes at Join d = IsJoinName d
IsWithin bytes at After d = Unit {0}
IsWithin bytes at OnFault d = IsTextThat is_short d
IsWithin bytes at To d = IsTextThat is_path d
IsWithin bytes at Until d = IsUntilOf bytes at d
IsWithin bytes at Max d = IsNumber 1 most_streams d

-- the value is of another type, or isn't there and would have to be
abbrev pub IsMistyped : Key → Option Data → Type 0
IsMistyped k None = is_required k ≡ true
IsMistyped k (Some d) = IsOfType k d → ⊥

-- the value is there and of its type, and out of its limits
abbrev pub IsOutside : List ℕ → Part → Key → Option Data → Type 0
IsOutside bytes at k None = ⊥
IsOutside bytes at k (Some d) = IsOfType k d × (IsWithin bytes at k d → ⊥)
