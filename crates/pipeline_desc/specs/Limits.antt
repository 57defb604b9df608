-- The limits of descriptions.
use Rattle.std.specs.Prelude.{ℕ, Bool, ◌&&◌, ◌||◌, ◌==◌, nat_le, nat_lt, not, List, length}
use Rattle.std.specs.Char.{is_ascii_digit, is_ascii_lowercase}
use Rattle.std.specs.List.{list_all}

-- the number is none below the first nor above the second
abbrev pub is_between : ℕ → ℕ → ℕ → Bool
is_between low high n = nat_le low n && nat_le n high

-- so is the number of the text's bytes
abbrev pub is_sized : ℕ → ℕ → List ℕ → Bool
is_sized low high text = is_between low high (length text)

-- the text is a path
abbrev pub is_path : List ℕ → Bool
is_path text = is_sized 1 1024 text

-- the byte may stand in the name of a table: a to z, 0 to 9, and `_`
abbrev pub is_name_byte : ℕ → Bool
is_name_byte b = is_ascii_lowercase b || (is_ascii_digit b || b == 95)

-- the text is the name of a table
abbrev pub is_name : List ℕ → Bool
is_name text = is_sized 1 32 text && list_all is_name_byte text

-- the text may stand in for a fault
abbrev pub is_short : List ℕ → Bool
is_short text = is_sized 0 1024 text

-- the number is that of a stream other than stream k, where there are so many
abbrev pub is_another_stream : ℕ → ℕ → ℕ → Bool
is_another_stream count k j = nat_lt j count && not (j == k)

-- the most bytes of a description
abbrev pub most_bytes : ℕ
most_bytes = 1048576

-- the most tables of a description
abbrev pub most_tables : ℕ
most_tables = 8

-- the most streams of a description
abbrev pub most_streams : ℕ
most_streams = 1024

-- the most groups of a description
abbrev pub most_groups : ℕ
most_groups = 16

-- as many streams a list may have where no number is given
abbrev pub listed_by_default : ℕ
listed_by_default = 64

-- the most steps of a stream
abbrev pub most_steps : ℕ
most_steps = 16
