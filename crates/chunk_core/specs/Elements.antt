-- What a load consists of, and the text of it.
use Rattle.std.specs.Prelude.{ℕ, List, [], ◌∷◌, ◌++◌, map}
use Rattle.std.specs.List.{flat_map}
use Rattle.csv.specs.Writing.{default_writer, row_text}
use Rattle.chunk_core.specs.declared.load.Load.{Load}
use Rattle.chunk_core.specs.declared.load.Load.TheVariants as load

-- one byte, the bytes of one line without its end, or the fields of one row
pub data Element : Type 0 where
  Byte : ℕ → Element
  Line : List ℕ → Element
  Row : List (List ℕ) → Element

-- the kinds of loads
pub data LoadKind : Type 0 where
  Bytes : LoadKind
  Lines : LoadKind
  Rows : LoadKind

-- the kind of a load, which an empty one has too
abbrev pub kind_of : Load → LoadKind
kind_of (load.Bytes bytes) = Bytes
kind_of (load.Lines lines) = Lines
kind_of (load.Rows rows) = Rows

-- the elements of a load in order
abbrev pub elements : Load → List Element
elements (load.Bytes bytes) = map Byte bytes
elements (load.Lines lines) = map Line lines
elements (load.Rows rows) = map Row rows

-- the elements of loads, one load after another
abbrev pub elements_of : List Load → List Element
elements_of loads = flat_map elements loads

-- a byte as it is, a line and its line feed, a row as a writer of comma-separated values writes it
abbrev pub element_text : Element → List ℕ
element_text (Byte b) = b ∷ []
element_text (Line line) = line ++ 10 ∷ []
element_text (Row fields) = row_text default_writer fields

-- the texts one after another
abbrev pub rendering_of : List Element → List ℕ
rendering_of xs = flat_map element_text xs
