-- What pipes mean, computed on a few inputs.
use Rattle.std.proofs.Common.{◌≡◌, ℕ, zero, suc, if◌then◌else◌, List, [], ◌∷◌, ◌++◌, map, Option, Some, None, refl, codes}
use Rattle.std.specs.Char.{encode_utf8}
use Rattle.std.specs.Fmt.{digits}
use Rattle.std.specs.Str.{bytes_eq, is_utf8, chars}
use Rattle.std.specs.Str.Lossy.{utf8_valid_len, utf8_error_len, utf8_lossy}
use Prim.Native.String.{String}
use Rattle.csv.specs.Machine.{next_record}
use Rattle.csv.specs.Reading.{records_from, strip_bom}
use Rattle.chunk_core.specs.Elements.{Element, Byte, Line, Row}
use Rattle.chunk_core.specs.Feed.{Given}
use Rattle.chunk_core.specs.declared.code.Code.{Code}
use Rattle.chunk_core.specs.declared.code.Code.TheVariants as code
use Rattle.pull_nodes.specs.Lines.{without_pairs, ended_lines, open_line}
use Rattle.pull_nodes.specs.PipeRule.{without_fault}
use Rattle.pull_nodes.specs.Pipes.{part_of, all_of}
use Rattle.chunk_core.specs.Tables.{Values, no_values}
use Rattle.pull_nodes.specs.declared.pipe.Pipe.TheVariants as pipe

abbrev bytes : String → List Element
bytes text = map Byte (codes text)

abbrev lines : List (List ℕ) → List Element
lines ls = map Line ls

abbrev failed : List Element → Code → Given
failed xs c = record { list = xs; fault = Some c }

-- a line that has ended comes out, also at a CR whose LF may follow; that LF ends no other line
lines_1 : part_of no_values pipe.Lines (bytes "a\r\nb\r") ≡ without_fault (lines (codes "a" ∷ codes "b" ∷ []))
unfolding without_pairs ended_lines open_line
lines_1 = refl

lines_2 : part_of no_values pipe.Lines (bytes "a\r\nb\r\n") ≡ without_fault (lines (codes "a" ∷ codes "b" ∷ []))
unfolding without_pairs ended_lines open_line
lines_2 = refl

lines_3 : all_of no_values pipe.Lines (bytes "a\r\n\nb\r\rc\n\rd") ≡ without_fault (lines (codes "a" ∷ [] ∷ codes "b" ∷ [] ∷ codes "c" ∷ [] ∷ codes "d" ∷ []))
unfolding without_pairs ended_lines open_line
lines_3 = refl

-- an empty rest is no line
lines_4 : all_of no_values pipe.Lines (bytes "\n") ≡ without_fault (lines ([] ∷ []))
unfolding without_pairs ended_lines open_line
lines_4 = refl

lines_5 : all_of no_values pipe.Lines [] ≡ without_fault []
unfolding without_pairs ended_lines open_line
lines_5 = refl

-- U+20AC in three bytes
utf8_1 : part_of no_values pipe.Utf8 (bytes "a" ++ map Byte (0xE2 ∷ 0x82 ∷ [])) ≡ without_fault (bytes "a")
unfolding utf8_valid_len is_utf8 chars encode_utf8 utf8_error_len
utf8_1 = refl

utf8_2 : all_of no_values pipe.Utf8 (bytes "a" ++ map Byte (0xE2 ∷ 0x82 ∷ [])) ≡ failed (bytes "a") code.Truncated
unfolding utf8_valid_len is_utf8 chars encode_utf8 utf8_error_len
utf8_2 = refl

utf8_3 : all_of no_values pipe.Utf8 (bytes "a" ++ map Byte (0xE2 ∷ 0x82 ∷ 0xAC ∷ [])) ≡ without_fault (bytes "a" ++ map Byte (0xE2 ∷ 0x82 ∷ 0xAC ∷ []))
unfolding utf8_valid_len is_utf8 chars encode_utf8 utf8_error_len
utf8_3 = refl

utf8_4 : part_of no_values pipe.Utf8 (bytes "a" ++ (map Byte (0xE2 ∷ 0x82 ∷ []) ++ bytes "b")) ≡ failed (bytes "a") code.Malformed
unfolding utf8_valid_len is_utf8 chars encode_utf8 utf8_error_len
utf8_4 = refl

utf8_5 : all_of no_values pipe.Utf8 (map Byte (0xFF ∷ [])) ≡ failed [] code.Malformed
unfolding utf8_valid_len is_utf8 chars encode_utf8 utf8_error_len
utf8_5 = refl

abbrev replacement : List Element
replacement = map Byte (0xEF ∷ 0xBF ∷ 0xBD ∷ [])

lossy_1 : part_of no_values pipe.Lossy (bytes "a" ++ map Byte (0xE2 ∷ 0x82 ∷ [])) ≡ without_fault (bytes "a")
unfolding utf8_valid_len is_utf8 chars encode_utf8 utf8_error_len utf8_lossy
lossy_1 = refl

lossy_2 : all_of no_values pipe.Lossy (bytes "a" ++ map Byte (0xE2 ∷ 0x82 ∷ [])) ≡ without_fault (bytes "a" ++ replacement)
unfolding utf8_valid_len is_utf8 chars encode_utf8 utf8_error_len utf8_lossy
lossy_2 = refl

-- a maximal ill-formed part, a byte that begins nothing, and an unfinished character
lossy_3 : part_of no_values pipe.Lossy (map Byte (0xF0 ∷ 0x9F ∷ 98 ∷ 0xFF ∷ 99 ∷ 0xC3 ∷ [])) ≡ without_fault (replacement ++ (bytes "b" ++ (replacement ++ bytes "c")))
unfolding utf8_valid_len is_utf8 chars encode_utf8 utf8_error_len utf8_lossy
lossy_3 = refl

hex_1 : part_of no_values pipe.Hex (bytes "0123456789abcdefgh") ≡ without_fault (lines (codes "30313233343536373839616263646566" ∷ []))
hex_1 = refl

hex_2 : all_of no_values pipe.Hex (bytes "0123456789abcdefgh") ≡ without_fault (lines (codes "30313233343536373839616263646566" ∷ codes "6768" ∷ []))
hex_2 = refl

hex_3 : all_of no_values pipe.Hex (map Byte (0 ∷ 0xAF ∷ [])) ≡ without_fault (lines (codes "00af" ∷ []))
hex_3 = refl

hex_4 : all_of no_values pipe.Hex [] ≡ without_fault []
hex_4 = refl

upper_1 : part_of no_values pipe.Upper (bytes "`azAZ{" ++ lines (codes "a-z" ∷ [])) ≡ without_fault (bytes "`AZAZ{" ++ lines (codes "A-Z" ∷ []))
upper_1 = refl

abbrev rows : List (List (List ℕ)) → List Element
rows fields = map Row fields

abbrev row : List String → List (List ℕ)
row fields = map codes fields

-- nothing comes before the end
csv_1 : part_of no_values pipe.Csv (bytes "a,b\nc,d\n") ≡ without_fault []
csv_1 = refl

csv_2 : all_of no_values pipe.Csv (bytes "a,b\r\n\r\n\"c,\"\"\n\",d") ≡ without_fault (rows (row ("a" ∷ "b" ∷ []) ∷ row ("c,\"\n" ∷ "d" ∷ []) ∷ []))
unfolding is_utf8 chars encode_utf8 strip_bom records_from next_record
csv_2 = refl

-- a record with a field more: those before it, and not those behind
csv_3 : all_of no_values pipe.Csv (bytes "a\nb\nc,d\ne\n") ≡ failed (rows (row ("a" ∷ []) ∷ row ("b" ∷ []) ∷ [])) code.Uneven
unfolding is_utf8 chars encode_utf8 strip_bom records_from next_record
csv_3 = refl

-- a byte order mark, a line of two quotes, and quotes that stay open
csv_4 : all_of no_values pipe.Csv (map Byte (0xEF ∷ 0xBB ∷ 0xBF ∷ []) ++ bytes "\"\"\na\rb\"c\n\"d\n") ≡ without_fault (rows (row ("" ∷ []) ∷ row ("a" ∷ []) ∷ row ("b\"c" ∷ []) ∷ row ("d\n" ∷ []) ∷ []))
unfolding is_utf8 chars encode_utf8 strip_bom records_from next_record
csv_4 = refl

-- no row comes of what isn't UTF-8
csv_5 : all_of no_values pipe.Csv (bytes "a\n" ++ map Byte (0xFF ∷ [])) ≡ failed [] code.NotUtf8
unfolding is_utf8 chars encode_utf8 strip_bom records_from next_record
csv_5 = refl

csv_6 : all_of no_values pipe.Csv [] ≡ without_fault []
unfolding is_utf8 chars encode_utf8 strip_bom records_from next_record
csv_6 = refl

field_1 : part_of no_values (pipe.Field 1) (rows (row ("a" ∷ "b" ∷ []) ∷ row ("c" ∷ "" ∷ "d" ∷ []) ∷ [])) ≡ without_fault (lines (codes "b" ∷ codes "" ∷ []))
field_1 = refl

-- a row without the field: those before it, and not those behind
field_2 : part_of no_values (pipe.Field 1) (rows (row ("a" ∷ "b" ∷ []) ∷ row ("c" ∷ []) ∷ row ("d" ∷ "e" ∷ []) ∷ [])) ≡ failed (lines (codes "b" ∷ [])) code.NoField
field_2 = refl

field_3 : all_of no_values (pipe.Field 0) (rows ([] ∷ [])) ≡ failed [] code.NoField
field_3 = refl

-- a table 0 whose key k has the value v, and a table 1 whose key k has the value w
abbrev of_key : List ℕ → List ℕ → Option (List ℕ)
of_key value key = if bytes_eq key (codes "k") then Some value else None

abbrev two_tables : Values
two_tables zero = of_key (codes "v")
two_tables (suc t) = of_key (codes "w")

lookup_1 : part_of two_tables (pipe.Lookup 0 0) (rows (row ("k" ∷ []) ∷ row ("z" ∷ []) ∷ [])) ≡ without_fault (rows (row ("k" ∷ "v" ∷ []) ∷ row ("z" ∷ "" ∷ []) ∷ []))
lookup_1 = refl

lookup_2 : all_of two_tables (pipe.Lookup 1 1) (rows (row ("a" ∷ "k" ∷ []) ∷ row ("k" ∷ []) ∷ row ("a" ∷ "k" ∷ []) ∷ [])) ≡ failed (rows (row ("a" ∷ "k" ∷ "w" ∷ []) ∷ [])) code.NoField
lookup_2 = refl

drop_1 : part_of no_values (pipe.Drop 2) (bytes "abc") ≡ without_fault (bytes "c")
drop_1 = refl

drop_2 : all_of no_values (pipe.Drop 2) (bytes "a") ≡ without_fault []
drop_2 = refl

filter_1 : part_of no_values (pipe.Filter (codes "ab")) (lines (codes "ab" ∷ codes "xaaby" ∷ codes "a" ∷ codes "ba" ∷ [] ∷ codes "bab" ∷ [])) ≡ without_fault (lines (codes "ab" ∷ codes "xaaby" ∷ codes "bab" ∷ []))
filter_1 = refl

filter_2 : part_of no_values (pipe.Filter []) (lines ([] ∷ codes "a" ∷ [])) ≡ without_fault (lines ([] ∷ codes "a" ∷ []))
filter_2 = refl

changes_1 : part_of no_values pipe.Changes (lines (codes "a" ∷ codes "a" ∷ codes "b" ∷ codes "a" ∷ codes "a" ∷ codes "" ∷ [])) ≡ without_fault (lines (codes "a" ∷ codes "b" ∷ codes "a" ∷ codes "" ∷ []))
changes_1 = refl

changes_2 : part_of no_values pipe.Changes (map Row ((codes "a" ∷ []) ∷ (codes "a" ∷ codes "" ∷ []) ∷ (codes "a" ∷ codes "" ∷ []) ∷ [])) ≡ without_fault (map Row ((codes "a" ∷ []) ∷ (codes "a" ∷ codes "" ∷ []) ∷ []))
changes_2 = refl

number_1 : part_of no_values pipe.Number (lines (codes "a" ∷ codes "" ∷ [])) ≡ without_fault (lines (codes "0 a" ∷ codes "1 " ∷ []))
unfolding digits
number_1 = refl

count_1 : part_of no_values pipe.Count (bytes "abc") ≡ without_fault []
count_1 = refl

count_2 : all_of no_values pipe.Count (bytes "0123456789") ≡ without_fault (lines (codes "10" ∷ []))
unfolding digits
count_2 = refl

intersperse_1 : part_of no_values (pipe.Intersperse (codes "-")) (lines (codes "a" ∷ codes "b" ∷ codes "c" ∷ [])) ≡ without_fault (lines (codes "a" ∷ codes "-" ∷ codes "b" ∷ codes "-" ∷ codes "c" ∷ []))
intersperse_1 = refl

intersperse_2 : all_of no_values (pipe.Intersperse (codes "-")) (lines (codes "a" ∷ [])) ≡ without_fault (lines (codes "a" ∷ []))
intersperse_2 = refl

chunk_1 : part_of no_values (pipe.ChunkN 2) (bytes "abcde") ≡ without_fault (bytes "abcd")
chunk_1 = refl

chunk_2 : all_of no_values (pipe.ChunkN 2) (bytes "abcde") ≡ without_fault (bytes "abcde")
chunk_2 = refl

chunk_0 : part_of no_values (pipe.ChunkN 0) (bytes "abc") ≡ without_fault (bytes "abc")
chunk_0 = refl
