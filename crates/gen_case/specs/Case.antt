-- The files of a case.
use Rattle.std.specs.Prelude.{ℕ, ◌+◌, ◌*◌, ◌/◌, ◌%◌, List, [], ◌∷◌, ◌++◌, map, flat_map, codes, decimal}
use Rattle.device_port.specs.declared.files.FileOf.{FileOf}
use Rattle.run_rules.specs.Facts.{first_numbers}
use Rattle.gen_case.specs.declared.case.Case.{Case}

-- the last decimal digit of a number, as text
abbrev pub digit : ℕ → ℕ
digit n = 48 + n % 10

-- the number on line i of the file of stream k
abbrev pub number_on : Case → ℕ → ℕ → ℕ
number_on c k i = (c.seed + 17 * k + 379 * i) % 1000

-- a number below 1,000 on a line of its own, in three digits
abbrev pub number_line : ℕ → List ℕ
number_line n = digit (n / 100) ∷ digit (n / 10) ∷ digit n ∷ 10 ∷ []

-- the number's record: its three digits, a comma, and its last digit
abbrev pub row_text : ℕ → List ℕ
row_text n = digit (n / 100) ∷ digit (n / 10) ∷ digit n ∷ 44 ∷ digit n ∷ 10 ∷ []

-- the file of stream k: a line for each number
abbrev pub stream_text : Case → ℕ → List ℕ
stream_text c k = flat_map (λ i. number_line (number_on c k i)) (first_numbers c.lines)

-- the records of the numbers below n
unfoldable pub records_text : ℕ → List ℕ
records_text n = flat_map row_text (first_numbers n)

-- the table's file
abbrev pub table_text : List ℕ
table_text = records_text 1000

-- `g` and the stream's number
abbrev pub stream_path : ℕ → List ℕ
stream_path k = codes "g" ++ decimal k

abbrev pub table_path : List ℕ
table_path = codes "gt"

abbrev pub stream_file : Case → ℕ → FileOf
stream_file c k = record { path = stream_path k; bytes = stream_text c k }

abbrev pub table_file : FileOf
table_file = record { path = table_path; bytes = table_text }

-- the files of all streams, and the table's
abbrev pub files_of : Case → List FileOf
files_of c = map (stream_file c) (first_numbers c.streams) ++ table_file ∷ []
