-- Bytes as lines of hexadecimal digits.
use Rattle.std.specs.Prelude.{ℕ, ◌/◌, ◌%◌, List, [], ◌∷◌, ◌++◌, map, length}
use Rattle.std.specs.List.{flat_map}
use Rattle.std.specs.Char.{digit_char}
use Rattle.chunk_core.specs.Elements.{Line}
use Rattle.chunk_core.specs.Elements.LoadKind.{Lines}
use Rattle.pull_nodes.specs.PipeRule.{PipeRule, from_bytes, without_fault}
use Rattle.pull_nodes.specs.Plain.{bytes_of, groups, ungrouped, if_any}
use Rattle.pull_nodes.specs.declared.kind.Kind.TheVariants as kind

-- each byte as two lower-case hexadecimal digits
abbrev pub hex_line : List ℕ → List ℕ
hex_line bytes = flat_map (λ b. digit_char (b / 16) ∷ digit_char (b % 16) ∷ []) bytes

-- a line for each whole group of 16 bytes
abbrev pub hex_lines : List ℕ → List (List ℕ)
hex_lines bytes = map hex_line (groups 16 (length bytes / 16) bytes)

-- a line for the bytes behind the last whole group, where there are some
abbrev pub hex_rest : List ℕ → List (List ℕ)
hex_rest bytes = if_any (hex_line (ungrouped 16 bytes))

-- the lines of the whole groups, and at the end that of the bytes behind them
abbrev pub hex_rule : PipeRule
hex_rule = record {
  gives = from_bytes Lines;
  of_nothing = kind.Lines;
  part = λ xs. without_fault (map Line (hex_lines (bytes_of xs)));
  all = λ xs. without_fault (map Line (hex_lines (bytes_of xs) ++ hex_rest (bytes_of xs)));
}
