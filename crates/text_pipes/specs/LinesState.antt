-- What the state of a pipe of lines stands for, and what it does with more bytes.
use Rattle.std.specs.Prelude.{◌≡◌, ℕ, Bool, true, false, ◌==◌, ◌<◌, List, [], ◌∷◌, ◌++◌, Option, Some, None, map, length}
use Rattle.std.specs.List.{before_first}
use Rattle.chunk_core.specs.Elements.{Element, Line, LoadKind}
use Rattle.chunk_core.specs.Elements.LoadKind.{Lines}
use Rattle.chunk_core.specs.Feed.{Meaning}
use Rattle.chunk_core.specs.declared.code.Code.{Code}
use Rattle.pull_nodes.specs.Lines.{is_end, last_byte, without_pairs, ended_lines, open_line, is_long, has_long}
use Rattle.pull_nodes.specs.Pipes.{IsMeaningOf}
use Rattle.pull_nodes.specs.Plain.{bytes_of, if_any}
use Rattle.pull_nodes.specs.declared.pipe.Pipe.TheVariants as pipe
use Rattle.text_pipes.specs.declared.lines.LinesPipe.{LinesPipe}

-- nothing, or a line end first
abbrev pub StopsAtEnd : List ℕ → Type 0
StopsAtEnd [] = Unit {0}
StopsAtEnd (c ∷ xs) = is_end c ≡ true

-- the lines that a text gives while it may go on, and whether one of them, or the open one, is too long
unfoldable pub found_in : List ℕ → List (List ℕ) × Bool
found_in text = (before_first is_long (ended_lines text), has_long text)

-- the same of bytes
abbrev pub lines_given : List ℕ → List (List ℕ) × Bool
lines_given xs = found_in (without_pairs 0 xs)

-- the open line and whether a CR came last, after the bytes xs, in which no line is too long
pub record StandsAt (line : List ℕ) (cr : Bool) (xs : List ℕ) : Type 0 where
  pub held : line ≡ open_line (without_pairs 0 xs)
  pub after : cr ≡ (last_byte 0 xs == 13)
  pub short : has_long (without_pairs 0 xs) ≡ false

abbrev pub StandsAfter : LinesPipe → List ℕ → Type 0
StandsAfter q xs = StandsAt q.held.items q.after_cr xs

-- the state stands for this input of the pipe
abbrev pub StandsFor : LinesPipe → Meaning → List Element → Type 0
StandsFor q m xs = IsMeaningOf pipe.Lines m × StandsAfter q (bytes_of xs)

-- the open line is still to come, where it isn't empty
abbrev pub Comes : LinesPipe → LoadKind → List Element → Option Code → Type 0
Comes q kind ys c = (kind ≡ Lines) × (ys ≡ map Line (if_any q.held.items)) × (c ≡ None)

-- behind any bytes that the state stands for, the bytes x give these lines more, and tell whether a line is too long
abbrev pub TakesBytes : LinesPipe → List ℕ → List (List ℕ) → Bool → LinesPipe → Type 0
TakesBytes a x ms long b = (xs : List ℕ) → StandsAfter a xs → (lines_given (xs ++ x) ≡ ((lines_given xs).0 ++ ms, long)) × (long ≡ false → StandsAfter b (xs ++ x))

-- what one step did with a front of the bytes, before what is left of them
abbrev pub Stepped : LinesPipe → List ℕ → List (List ℕ) → List (List ℕ) → LinesPipe → Option (List ℕ) → Type 0
Stepped a bytes old new b (Some left) = (x : List ℕ) × (ms : List (List ℕ)) × (x ++ left ≡ bytes) × (length left < length bytes) × (new ≡ old ++ ms) × TakesBytes a x ms false b
Stepped a bytes old new b None = (x : List ℕ) × (left : List ℕ) × (x ++ left ≡ bytes) × (new ≡ old) × TakesBytes a x [] true b
