-- The rows of the case's files.
use Rattle.std.proofs.Common.{◌≡◌, ℕ, zero, suc, ◌+◌, ◌*◌, ◌/◌, ◌<◌, ◌≤◌, ◌||◌, false, Option, Some, None, List, [], ◌∷◌, ◌++◌, map, flat_map, length, refl, sym, ap, ◌∙◌, ⊎_elim, ne_eqb, arith, get_or, lit≤}
use Rattle.std.specs.List.{AllByRecursion, list_any, range_with_len}
use Rattle.std.specs.Str.{IsAscii, IsUtf8, bytes_eq}
use Rattle.std.proofs.lemmas.Bool.{cases_eq, false_from_ne_true, le-ltb}
use Rattle.std.proofs.lemmas.List.Folds.{flat_map-map}
use Rattle.std.proofs.lemmas.Simd.{map-map}
use Rattle.std.proofs.lemmas.Slice.Eq.{bytes_eq-Decides}
use Rattle.std.proofs.lemmas.Str.{IsAscii-append, IsUtf8-from_ascii, is_utf8-from_IsUtf8}
use Rattle.std.proofs.lemmas.Str.Ascii.{IsAscii-cons, IsAscii-nil}
use Rattle.csv.specs.Machine.{next_record}
use Rattle.csv.specs.Quoting.{needs_byte}
use Rattle.csv.specs.Reading.{default_config, records_from, strip_bom}
use Rattle.csv.specs.Writing.{default_writer, fields_text, is_blank, read_back, row_text as written_row}
use Rattle.csv.specs.declared.parser.State.TheVariants as st
use Rattle.csv.proofs.RoundTrip.{read-write}
use Rattle.chunk_core.specs.Elements.{Row, element_text, rendering_of}
use Rattle.csv_pipes.specs.Dictionaries.{has_long_value, records_fault, table_fault, table_value, value_for}
use Rattle.csv_pipes.proofs.Walks.{records_end, records_take}
use Rattle.csv_pipes.proofs.Tables.{fault_by_records}
use Rattle.pull_nodes.specs.Csv.{csv_all, has_other_length, records_of, rows_given, uneven_fault}
use Rattle.pull_nodes.specs.Field.{each_made}
use Rattle.pull_nodes.specs.Lookup.{looked_up}
use Rattle.pull_nodes.specs.PipeRule.{without_fault}
use Rattle.pull_nodes.proofs.LineLaws.{before_first-all}
use Rattle.run_rules.specs.Facts.{first_numbers}
use Rattle.gen_case.specs.Case.{digit, number_line, number_on, records_text, row_text, stream_text, table_text}
use Rattle.gen_case.specs.Rendering.{StreamsRenderIdeal, TableIsRead, line_row, looked_up_rows, record_row, rows_of, three_digits}
use Rattle.gen_case.specs.Ideal.{ideal_text}
use Rattle.gen_case.specs.declared.case.Case.{Case}
use Rattle.gen_case.proofs.Ideal.{line_bytes, records_bytes}

digit_within : (n : ℕ) → (48 ≤ digit n) × (digit n ≤ 57)
digit_within n = (omega arith, omega arith)

plain : (n : ℕ) → needs_byte default_writer (digit n) ≡ false
plain n =
    let h = digit_within n in
    rw (ne_eqb (digit n) 44 (λ e. omega (arith, h.0, h.1)), ne_eqb (digit n) 34 (λ e. omega (arith, h.0, h.1)), ne_eqb (digit n) 13 (λ e. omega (arith, h.0, h.1)), ne_eqb (digit n) 10 (λ e. omega (arith, h.0, h.1))) refl

three_plain : (n : ℕ) → list_any (needs_byte default_writer) (three_digits n) ≡ false
three_plain n = λ i. plain (n / 100) i || (plain (n / 10) i || (plain n i || false))

one_plain : (n : ℕ) → list_any (needs_byte default_writer) (digit n ∷ []) ≡ false
one_plain n = λ i. plain n i || false

-- a line and a record are what a writer of comma-separated values makes of their fields
line_written : (n : ℕ) → written_row default_writer (line_row n) ≡ number_line n
unfolding is_blank fields_text
line_written n = rw (three_plain n) refl

record_written : (n : ℕ) → written_row default_writer (record_row n) ≡ row_text n
unfolding is_blank fields_text
record_written n = rw (three_plain n, one_plain n) refl

nothing_next : next_record default_config st.StartRecord [] [] [] ≡ None
unfolding next_record
nothing_next = refl

-- rows that are written are read back
module _ (row : ℕ → List (List ℕ)) (back : (n : ℕ) → read_back (row n) ≡ row n) where
  rows_read : (ns : List ℕ) (m : ℕ) → length (flat_map (λ n. written_row default_writer (row n)) ns) < m
      → records_from default_config m st.StartRecord (flat_map (λ n. written_row default_writer (row n)) ns) ≡ map row ns
  rows_read [] m h = records_end m st.StartRecord [] nothing_next
  rows_read (n ∷ ns) m h =
      let rest = flat_map (λ k. written_row default_writer (row k)) ns in
      records_take m st.StartRecord (written_row default_writer (row n) ++ rest) (read_back (row n), st.StartRecord, rest) refl h (read-write (row n) rest)
      ∙ (λ i. back n i ∷ rows_read ns (length rest + 1) (omega arith) i)

  -- of texts that begin with no byte order mark
  module _ (text : ℕ → List ℕ) (written : (n : ℕ) → written_row default_writer (row n) ≡ text n) (marked : (ns : List ℕ) → strip_bom (flat_map text ns) ≡ flat_map text ns) where
    texts_are : ◌≡◌ {A = ℕ → List ℕ} text (λ n. written_row default_writer (row n))
    texts_are = λ i n. sym (written n) i

    records_are : (ns : List ℕ) → records_of (flat_map text ns) ≡ map row ns
    records_are ns =
        ap (λ xs. records_from default_config (length xs + 1) st.StartRecord xs) (marked ns)
        ∙ (ap (λ (f : ℕ → List ℕ). records_from default_config (length (flat_map f ns) + 1) st.StartRecord (flat_map f ns)) texts_are
        ∙ rows_read ns (length (flat_map (λ n. written_row default_writer (row n)) ns) + 1) (omega arith))

line_unmarked : (ns : List ℕ) → strip_bom (flat_map number_line ns) ≡ flat_map number_line ns
unfolding strip_bom
line_unmarked [] = refl
line_unmarked (n ∷ ns) = let h = digit_within (n / 100) in rw (ne_eqb (digit (n / 100)) 239 (λ e. omega (arith, h.0, h.1))) refl

record_unmarked : (ns : List ℕ) → strip_bom (flat_map row_text ns) ≡ flat_map row_text ns
unfolding strip_bom
record_unmarked [] = refl
record_unmarked (n ∷ ns) = let h = digit_within (n / 100) in rw (ne_eqb (digit (n / 100)) 239 (λ e. omega (arith, h.0, h.1))) refl

line_records : (ns : List ℕ) → records_of (flat_map number_line ns) ≡ map line_row ns
line_records ns = records_are line_row (λ n. refl) number_line line_written line_unmarked ns

table_records : (ns : List ℕ) → records_of (flat_map row_text ns) ≡ map record_row ns
table_records ns = records_are record_row (λ n. refl) row_text record_written record_unmarked ns

small_digit : (n : ℕ) → digit n < 128
small_digit n = omega (arith, (digit_within n).1)

line_ascii : (ns : List ℕ) → IsAscii (flat_map number_line ns)
line_ascii [] = IsAscii-nil
line_ascii (n ∷ ns) =
    let one = IsAscii-cons 10 [] (omega arith) IsAscii-nil in
    let two = IsAscii-cons (digit n) (10 ∷ []) (small_digit n) one in
    let three = IsAscii-cons (digit (n / 10)) (digit n ∷ 10 ∷ []) (small_digit (n / 10)) two in
    IsAscii-append (number_line n) (flat_map number_line ns) (IsAscii-cons (digit (n / 100)) (digit (n / 10) ∷ digit n ∷ 10 ∷ []) (small_digit (n / 100)) three) (line_ascii ns)

record_ascii : (ns : List ℕ) → IsAscii (flat_map row_text ns)
record_ascii [] = IsAscii-nil
record_ascii (n ∷ ns) =
    let one = IsAscii-cons 10 [] (omega arith) IsAscii-nil in
    let two = IsAscii-cons (digit n) (10 ∷ []) (small_digit n) one in
    let three = IsAscii-cons 44 (digit n ∷ 10 ∷ []) (omega arith) two in
    let four = IsAscii-cons (digit n) (44 ∷ digit n ∷ 10 ∷ []) (small_digit n) three in
    let five = IsAscii-cons (digit (n / 10)) (digit n ∷ 44 ∷ digit n ∷ 10 ∷ []) (small_digit (n / 10)) four in
    IsAscii-append (row_text n) (flat_map row_text ns) (IsAscii-cons (digit (n / 100)) (digit (n / 10) ∷ digit n ∷ 44 ∷ digit n ∷ 10 ∷ []) (small_digit (n / 100)) five) (record_ascii ns)

-- rows of as many fields
module _ (row : ℕ → List (List ℕ)) (size : ℕ) (sized : (n : ℕ) → has_other_length size (row n) ≡ false) where
  none_other : (ns : List ℕ) → list_any (has_other_length size) (map row ns) ≡ false
  none_other [] = refl
  none_other (n ∷ ns) = rw (sized n) (none_other ns)

none_long : (ns : List ℕ) → list_any has_long_value (map record_row ns) ≡ false
none_long [] = refl
none_long (n ∷ ns) = none_long ns

line_even : (ns : List ℕ) → rows_given (map line_row ns) ≡ without_fault (map (λ n. Row (line_row n)) ns)
line_even [] = refl
line_even (n ∷ ns) =
    let none = none_other line_row 1 (λ k. refl) (n ∷ ns) in
    let all = before_first-all (has_other_length 1) (map line_row (n ∷ ns)) none in
    (λ i. record { list = map Row (all i); fault = uneven_fault (none i) }) ∙ ap without_fault (map-map Row line_row (n ∷ ns))

line_text_of : (c : Case) (k : ℕ) → stream_text c k ≡ flat_map number_line (map (number_on c k) (first_numbers c.lines))
line_text_of c k = sym (flat_map-map number_line (number_on c k) (first_numbers c.lines))

lines_csv : (ns : List ℕ) → length (flat_map number_line ns) ≤ 16777216 → csv_all (flat_map number_line ns) ≡ without_fault (map (λ n. Row (line_row n)) ns)
lines_csv ns small =
    rw (le-ltb 16777216 (length (flat_map number_line ns)) small, is_utf8-from_IsUtf8 (flat_map number_line ns) (IsUtf8-from_ascii (flat_map number_line ns) (line_ascii ns)))
    (ap rows_given (line_records ns) ∙ line_even ns)

stream_csv : (c : Case) (k : ℕ) → c.lines ≤ 100000 → csv_all (stream_text c k) ≡ without_fault (rows_of c k)
stream_csv c k few =
    let ns = map (number_on c k) (first_numbers c.lines) in
    let long : length (stream_text c k) ≡ 4 * c.lines = line_bytes c k in
    ap csv_all (line_text_of c k) ∙ (lines_csv ns (omega (arith, sym (ap length (line_text_of c k)), long))
    ∙ ap without_fault (map-map (λ n. Row (line_row n)) (number_on c k) (first_numbers c.lines)))

-- the table's values

digits_tell : (a m : ℕ) → a < 1000 → m < 1000 → three_digits a ≡ three_digits m → a ≡ m
digits_tell a m h g e =
    let x : digit (a / 100) ≡ digit (m / 100) = ap (λ l. get_or l 0 0) e in
    let y : digit (a / 10) ≡ digit (m / 10) = ap (λ l. get_or l 1 0) e in
    let z : digit a ≡ digit m = ap (λ l. get_or l 2 0) e in
    omega arith

value_among : (n a m : ℕ) → a ≤ m → m < a + n → a + n ≤ 1000 → value_for (three_digits m) (map record_row (range_with_len a n)) ≡ Some (digit m ∷ [])
value_among zero a m low high h = absurd (omega arith)
value_among (suc n) a m low high h = ⊎_elim
    (λ e. let same = (bytes_eq-Decides (three_digits a) (three_digits m)).1 (ap three_digits e) in rw same (ap (λ x. Some (digit x ∷ [])) e))
    (λ ne.
    let other = false_from_ne_true (bytes_eq (three_digits a) (three_digits m)) (λ t. ne (digits_tell a m (omega arith) (omega arith) ((bytes_eq-Decides (three_digits a) (three_digits m)).0 t))) in
    rw other (value_among n (a + 1) m (omega arith) (omega arith) (omega arith)))
    (cases_eq a m)

-- of the first n records, so that no thousand of them is computed
table_rows : (n : ℕ) → records_of (records_text n) ≡ map record_row (first_numbers n)
unfolding records_text
table_rows n = table_records (first_numbers n)

table_has : (n m : ℕ) → n ≤ 1000 → m < n → table_value (records_text n) (three_digits m) ≡ Some (digit m ∷ [])
table_has n m few h = ap (value_for (three_digits m)) (table_rows n) ∙ value_among n 0 m (omega arith) (omega arith) (omega arith)

-- rows whose field the table has
lookups : (value : List ℕ → Option (List ℕ)) (ns : List ℕ) → AllByRecursion (λ n. value (three_digits n) ≡ Some (digit n ∷ [])) ns
    → each_made (looked_up value 0) (map (λ n. Row (line_row n)) ns) ≡ without_fault (map (λ n. Row (record_row n)) ns)
lookups value [] h = refl
lookups value (n ∷ ns) h = rw (h.0, lookups value ns h.1) refl

numbers_small : (c : Case) (k : ℕ) (is : List ℕ) → AllByRecursion (λ n. table_value table_text (three_digits n) ≡ Some (digit n ∷ [])) (map (number_on c k) is)
numbers_small c k [] = tt
numbers_small c k (i ∷ is) = (table_has 1000 (number_on c k i) (lit≤ tt) (omega arith), numbers_small c k is)

stream_lookup : (c : Case) (k : ℕ) → each_made (looked_up (table_value table_text) 0) (rows_of c k) ≡ without_fault (looked_up_rows c k)
stream_lookup c k =
    let ns = map (number_on c k) (first_numbers c.lines) in
    ap (λ l. each_made (looked_up (table_value table_text) 0) l) (sym (map-map (λ n. Row (line_row n)) (number_on c k) (first_numbers c.lines)))
    ∙ (lookups (table_value table_text) ns (numbers_small c k (first_numbers c.lines))
    ∙ ap without_fault (map-map (λ n. Row (record_row n)) (number_on c k) (first_numbers c.lines)))

stream_rendered : (c : Case) (k : ℕ) → rendering_of (looked_up_rows c k) ≡ ideal_text c k
stream_rendered c k =
    flat_map-map element_text (λ i. Row (record_row (number_on c k i))) (first_numbers c.lines)
    ∙ (λ j. flat_map (λ i. record_written (number_on c k i) j) (first_numbers c.lines))

pub streams_render_ideal : StreamsRenderIdeal
streams_render_ideal c k few = record { csv = stream_csv c k few; lookup = stream_lookup c k; text = stream_rendered c k }

-- the table's file is a table

record_fault : (ns : List ℕ) → records_fault (map record_row ns) ≡ None
record_fault [] = refl
record_fault (n ∷ ns) =
    let even = none_other record_row 2 (λ k. refl) (n ∷ ns) in
    let short = none_long ns in
    rw (even, short) refl

good : (n : ℕ) → IsUtf8 (records_text n)
unfolding records_text
good n = IsUtf8-from_ascii (flat_map row_text (first_numbers n)) (record_ascii (first_numbers n))

table_sound : (n : ℕ) → 6 * n ≤ 16777216 → table_fault (records_text n) ≡ None
table_sound n small = sym (fault_by_records (records_text n) (omega (arith, records_bytes n)) (good n)) ∙ (ap records_fault (table_rows n) ∙ record_fault (first_numbers n))

pub table_is_read : TableIsRead
table_is_read = table_sound 1000 (lit≤ tt)
