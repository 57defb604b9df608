-- What stands where in a description.
use Rattle.std.specs.Prelude.{◌≡◌, ℕ, ◌+◌, List, [], ◌∷◌, ◌++◌, length, Option, Some, None, unwrap_or, option_and_then, option_to_list, slice_get}
use Rattle.std.specs.List.{flat_map}
use Rattle.toml.specs.Data.{Data, Items, no_items, Members, no_members, as_array, as_str, as_table, get_member}
use Rattle.toml.specs.Parse.{parse_document}
use Rattle.pipeline_desc.specs.Values.{each_as}
use Rattle.desc_laws.specs.Flaws.{Key, key_text, Part}
use Rattle.pipeline_desc.specs.Groups.{group_from}
use Rattle.pipeline_desc.specs.declared.group.GroupSpec.{GroupSpec}
use Rattle.desc_laws.specs.Flaws.Key.{Tables, Streams, Groups, Listing}
use Rattle.desc_laws.specs.Flaws.Part.{Top, Group, Table, Stream}

-- the document that the bytes write, and an empty one where they write none
abbrev pub document_in : List ℕ → Members
document_in bytes = unwrap_or (parse_document bytes) no_members

-- the value at a key, where there is one
abbrev pub value_in : Members → Key → Option Data
value_in ms k = get_member (key_text k) ms

-- the items of an array, and none of another value
abbrev pub items_in : Option Data → Items
items_in None = no_items
items_in (Some d) = unwrap_or (as_array d) no_items

-- the entries of an array as f sees them, and none where it isn't an array of such entries alone
abbrev pub entries_in : {A : Type 0} → (Data → Option A) → Option Data → List A
entries_in f d = unwrap_or (each_as f (items_in d)) []

-- the tables that stand at a key
abbrev pub entries_at : Members → Key → List Members
entries_at ms k = entries_in as_table (value_in ms k)

-- the groups, as they stand in the document
abbrev pub groups_in : List ℕ → List Members
groups_in bytes = entries_at (document_in bytes) Groups

-- the tables of records, as they stand in the document: those of the top, and then those of each group
abbrev pub tables_in : List ℕ → List Members
tables_in bytes = entries_at (document_in bytes) Tables ++ flat_map (λ g. entries_at g Tables) (groups_in bytes)

-- the streams, as they stand in the document: those of the top, and then those of each group
abbrev pub streams_in : List ℕ → List Members
streams_in bytes = entries_at (document_in bytes) Streams ++ flat_map (λ g. entries_at g Streams) (groups_in bytes)

-- the list, where there is one
abbrev pub list_in : List ℕ → List Members
list_in bytes = option_to_list (option_and_then as_table (value_in (document_in bytes) Listing))

-- these groups, each with the numbers of its tables and streams, the first of which are these
abbrev pub spans_from : ℕ → ℕ → List Members → List GroupSpec
spans_from table stream [] = []
spans_from table stream (g ∷ groups) =
    group_from table (length (entries_at g Tables)) stream (length (entries_at g Streams))
    ∷ spans_from (table + length (entries_at g Tables)) (stream + length (entries_at g Streams)) groups

-- the groups by these numbers
abbrev pub spans_in : List ℕ → List GroupSpec
spans_in bytes = spans_from (length (entries_at (document_in bytes) Tables)) (length (entries_at (document_in bytes) Streams)) (groups_in bytes)

-- the keys and values of a part of the description
abbrev pub part_in : List ℕ → Part → Members
part_in bytes Top = document_in bytes
part_in bytes (Group g) = unwrap_or (slice_get (groups_in bytes) g) no_members
part_in bytes (Table i) = unwrap_or (slice_get (tables_in bytes) i) no_members
part_in bytes (Stream k) = unwrap_or (slice_get (streams_in bytes ++ list_in bytes) k) no_members

-- the value at a key of a part, where there is one
abbrev pub value_at : List ℕ → Part → Key → Option Data
value_at bytes at k = value_in (part_in bytes at) k

-- a value is there
abbrev pub IsGiven : List ℕ → Part → Key → Type 0
IsGiven bytes at k = (d : Data) × (value_at bytes at k ≡ Some d)

-- the text of a value, where it is one
abbrev pub text_in : Option Data → Option (List ℕ)
text_in d = option_and_then as_str d

-- this text is there
abbrev pub HasText : List ℕ → Part → Key → List ℕ → Type 0
HasText bytes at k text = text_in (value_at bytes at k) ≡ Some text

-- the words at a key of stream k, or of the list
abbrev pub words_at : List ℕ → ℕ → Key → List (List ℕ)
words_at bytes k key = entries_in as_str (value_at bytes (Stream k) key)
