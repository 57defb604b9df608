-- What is well formed of bytes.
use Rattle.std.specs.Prelude.{ℕ, Bool, not, ◌&&◌, ◌==◌, if◌then◌else◌, List, [], ◌∷◌, ◌++◌, length, take, drop, is_some, IsUtf8, Option, Some, None, map}
use Rattle.std.specs.Str.Lossy.{utf8_lossy, utf8_valid_len, utf8_error_len}
use Rattle.chunk_core.specs.Elements.{Byte}
use Rattle.chunk_core.specs.Elements.LoadKind.{Bytes}
use Rattle.chunk_core.specs.Feed.{Given}
use Rattle.chunk_core.specs.declared.code.Code.{Code}
use Rattle.chunk_core.specs.declared.code.Code.TheVariants as code
use Rattle.pull_nodes.specs.PipeRule.{PipeRule, from_bytes, without_fault}
use Rattle.pull_nodes.specs.Plain.{bytes_of}
use Rattle.pull_nodes.specs.declared.kind.Kind.TheVariants as kind

-- the longest well-formed front
abbrev pub utf8_front : List ℕ → List ℕ
utf8_front xs = take (utf8_valid_len xs) xs

-- what follows the longest well-formed front
abbrev pub utf8_rest : List ℕ → List ℕ
utf8_rest xs = drop (utf8_valid_len xs) xs

-- no continuation makes the bytes well formed
abbrev pub IsMalformed : List ℕ → Type 0
IsMalformed xs = (more : List ℕ) → ¬ IsUtf8 (xs ++ more)

-- the test of that, of bytes that begin with no character: the standard library tells how many of them are at fault
abbrev pub is_malformed : List ℕ → Bool
is_malformed xs = is_some (utf8_error_len xs)

-- the fault of a rest where the input may go on
abbrev pub part_fault : List ℕ → Option Code
part_fault rest = if is_malformed rest then Some code.Malformed else None

-- the fault of a rest where the input ends
abbrev pub end_fault : List ℕ → Option Code
end_fault [] = None
end_fault (b ∷ rest) = if is_malformed (b ∷ rest) then Some code.Malformed else Some code.Truncated

-- the longest well-formed front, and a fault where no continuation makes the rest well formed
abbrev pub utf8_part : List ℕ → Given
utf8_part xs = record { list = map Byte (utf8_front xs); fault = part_fault (utf8_rest xs) }

-- the longest well-formed front, and a fault where a rest is left
abbrev pub utf8_all : List ℕ → Given
utf8_all xs = record { list = map Byte (utf8_front xs); fault = end_fault (utf8_rest xs) }

-- some bytes of a character that isn't whole: they begin with no character, and a continuation makes them one
abbrev pub is_unfinished : List ℕ → Bool
is_unfinished xs = not (length xs == 0) && (utf8_valid_len xs == 0 && not (is_malformed xs))

-- the bytes without an unfinished character at their end
abbrev pub finished_front : List ℕ → List ℕ
finished_front [] = []
finished_front (b ∷ xs) = if is_unfinished (b ∷ xs) then [] else (b ∷ finished_front xs)

-- the unfinished character at their end, or nothing
abbrev pub unfinished_rest : List ℕ → List ℕ
unfinished_rest [] = []
unfinished_rest (b ∷ xs) = if is_unfinished (b ∷ xs) then (b ∷ xs) else unfinished_rest xs

-- the input as far as it is well formed
abbrev pub utf8_rule : PipeRule
utf8_rule = record {
  gives = from_bytes Bytes;
  of_nothing = kind.Bytes;
  part = λ xs. utf8_part (bytes_of xs);
  all = λ xs. utf8_all (bytes_of xs);
}

-- the input made well formed; a character that isn't whole is held back until the end
abbrev pub lossy_rule : PipeRule
lossy_rule = record {
  gives = from_bytes Bytes;
  of_nothing = kind.Bytes;
  part = λ xs. without_fault (map Byte (utf8_lossy (finished_front (bytes_of xs))));
  all = λ xs. without_fault (map Byte (utf8_lossy (bytes_of xs)));
}
