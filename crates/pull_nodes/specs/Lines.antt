-- The lines of bytes.
use Rattle.std.specs.Prelude.{◌≡◌, ℕ, Bool, false, ◌==◌, ◌&&◌, ◌||◌, if◌then◌else◌, nat_lt, List, [], ◌∷◌, ◌++◌, length, map, Option, Some, None}
use Rattle.std.specs.List.{before_first, list_any}
use Rattle.chunk_core.specs.Elements.{Line}
use Rattle.chunk_core.specs.Elements.LoadKind.{Lines}
use Rattle.chunk_core.specs.Feed.{Given}
use Rattle.chunk_core.specs.declared.code.Code.{Code}
use Rattle.chunk_core.specs.declared.code.Code.TheVariants as code
use Rattle.pull_nodes.specs.PipeRule.{PipeRule, from_bytes}
use Rattle.pull_nodes.specs.Plain.{bytes_of, if_any}
use Rattle.pull_nodes.specs.declared.kind.Kind.TheVariants as kind

-- a line ends at a CR or a LF
abbrev pub is_end : ℕ → Bool
is_end c = (c == 13) || (c == 10)

-- a line ends in the bytes
abbrev pub has_end : List ℕ → Bool
has_end [] = false
has_end (c ∷ xs) = is_end c || has_end xs

-- no line ends in the bytes
abbrev pub IsFree : List ℕ → Type 0
IsFree xs = has_end xs ≡ false

-- the last byte, or b where there is none
unfoldable pub last_byte : ℕ → List ℕ → ℕ
last_byte b [] = b
last_byte b (c ∷ xs) = last_byte c xs

-- the bytes, which follow the byte b, without each LF that stands directly after a CR: it belongs to that CR
unfoldable pub without_pairs : ℕ → List ℕ → List ℕ
without_pairs b [] = []
without_pairs b (c ∷ xs) = if (b == 13) && (c == 10) then without_pairs c xs else (c ∷ without_pairs c xs)

-- a byte at the front of the first line, where there is one
abbrev pub onto : ℕ → List (List ℕ) → List (List ℕ)
onto c [] = []
onto c (l ∷ ls) = (c ∷ l) ∷ ls

-- the lines that end
unfoldable pub ended_lines : List ℕ → List (List ℕ)
ended_lines [] = []
ended_lines (c ∷ xs) = if is_end c then ([] ∷ ended_lines xs) else onto c (ended_lines xs)

-- all bytes, where no line ends in them, and else those behind the last end
abbrev pub where_none : List (List ℕ) → List ℕ → List ℕ → List ℕ
where_none [] whole behind = whole
where_none (l ∷ ls) whole behind = behind

-- what stands after the last line end
unfoldable pub open_line : List ℕ → List ℕ
open_line [] = []
open_line (c ∷ xs) = if is_end c then open_line xs else where_none (ended_lines xs) (c ∷ xs) (open_line xs)

-- more than 1,048,576 bytes
abbrev pub is_long : List ℕ → Bool
is_long line = nat_lt 1048576 (length line)

-- a line that ends, or the open one, is too long
abbrev pub has_long : List ℕ → Bool
has_long text = list_any is_long (ended_lines text) || is_long (open_line text)

-- a fault where a line is too long
abbrev pub long_fault : Bool → Option Code
long_fault long = if long then Some code.LongLine else None

-- the open line, where it isn't empty and no line is too long
abbrev pub last_line : List ℕ → List (List ℕ)
last_line text = if has_long text then [] else if_any (open_line text)

-- the lines that end, and a fault at the first 1,048,577 bytes in succession without a line end
abbrev pub lines_part : List ℕ → Given
lines_part xs = let text = without_pairs 0 xs in
    record { list = map Line (before_first is_long (ended_lines text)); fault = long_fault (has_long text) }

-- the same and the open line, where it isn't empty
abbrev pub lines_all : List ℕ → Given
lines_all xs = let text = without_pairs 0 xs in
    record { list = map Line (before_first is_long (ended_lines text) ++ last_line text); fault = long_fault (has_long text) }

-- the lines that end, and at the end the open one
abbrev pub lines_rule : PipeRule
lines_rule = record {
  gives = from_bytes Lines;
  of_nothing = kind.Lines;
  part = λ xs. lines_part (bytes_of xs);
  all = λ xs. lines_all (bytes_of xs);
}
