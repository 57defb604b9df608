-- What the word of a step means, wherever it stands.
use Rattle.std.specs.Prelude.{ℕ, List, [], ◌∷◌, codes, Option, Some, None, Result, Ok, Err, if◌then◌else◌}
use Rattle.std.specs.Str.{bytes_eq}
use Rattle.pull_nodes.specs.declared.pipe.Pipe.{Pipe}
use Rattle.pull_nodes.specs.declared.pipe.Pipe.TheVariants as pipe
use Rattle.pipeline_desc.specs.Limits.{is_between, is_sized}
use Rattle.pipeline_desc.specs.Meant.{NamedTables}
use Rattle.pipeline_desc.specs.Steps.{before_space, behind_space, table_named, written_number}
use Rattle.pipeline_desc.specs.declared.refusal.RefusalKind.{RefusalKind}
use Rattle.pipeline_desc.specs.declared.refusal.RefusalKind.TheVariants as refused
use Rattle.pipeline_desc.specs.declared.step.Step.{Step}
use Rattle.pipeline_desc.specs.declared.step.Step.TheVariants as step

-- what stands behind the name of a step: nothing; a number from low to high; a text of so many bytes; the name of a table, a space and a number
pub data Form : Type 0 where
  Nothing : Pipe → Form
  Number : ℕ → ℕ → (ℕ → Step) → Form
  Text : ℕ → ℕ → (List ℕ → Pipe) → Form
  OfTable : Form

-- the steps, each by its name, with its form and what it is
abbrev pub step_forms : List (List ℕ × Form)
step_forms =
    (codes "utf8", Nothing pipe.Utf8)
    ∷ (codes "lossy", Nothing pipe.Lossy)
    ∷ (codes "upper", Nothing pipe.Upper)
    ∷ (codes "hex", Nothing pipe.Hex)
    ∷ (codes "lines", Nothing pipe.Lines)
    ∷ (codes "csv", Nothing pipe.Csv)
    ∷ (codes "changes", Nothing pipe.Changes)
    ∷ (codes "number", Nothing pipe.Number)
    ∷ (codes "count", Nothing pipe.Count)
    ∷ (codes "take", Number 0 999999999 (λ n. step.Take n))
    ∷ (codes "drop", Number 0 999999999 (λ n. step.Pipe (pipe.Drop n)))
    ∷ (codes "field", Number 0 999999999 (λ i. step.Pipe (pipe.Field i)))
    ∷ (codes "lookup", OfTable)
    ∷ (codes "filter", Text 1 1024 (λ text. pipe.Filter text))
    ∷ (codes "intersperse", Text 0 64 (λ text. pipe.Intersperse text))
    ∷ (codes "chunk", Number 1 64 (λ n. step.Pipe (pipe.ChunkN n)))
    ∷ []

-- the form of the first of these with this name
abbrev pub form_of : List (List ℕ × Form) → List ℕ → Option Form
form_of [] name = None
form_of (row ∷ rows) name = if bytes_eq name row.0 then Some row.1 else form_of rows name

-- a step, or what is wrong with its word
abbrev pub Meant : Type 0
Meant = Result Step RefusalKind

-- the number that a text writes, where it is one from low to high
abbrev pub number_in : ℕ → ℕ → Option ℕ → Option ℕ
number_in low high None = None
number_in low high (Some n) = if is_between low high n then Some n else None

-- a step of a number
abbrev pub of_number : (ℕ → Step) → Option ℕ → Meant
of_number make None = Err refused.OutOfRange
of_number make (Some n) = Ok (make n)

-- a lookup of a field in a table; the field is looked at first
abbrev pub of_field : Option ℕ → ℕ → Meant
of_field None i = Err refused.UnknownTable
of_field (Some t) i = Ok (step.Pipe (pipe.Lookup t i))

abbrev pub of_lookup : Option ℕ → Option ℕ → Meant
of_lookup t None = Err refused.OutOfRange
of_lookup t (Some i) = of_field t i

-- a lookup by the name of a table and the text behind it, where one stands behind a space
abbrev pub of_table : NamedTables → List ℕ → Option (List ℕ) → Meant
of_table tables name None = Err refused.OutOfRange
of_table tables name (Some text) = of_lookup (table_named name tables) (number_in 0 999999999 (written_number text))

-- what an argument, or none, means for a form
abbrev pub of_form : NamedTables → Form → Option (List ℕ) → Meant
of_form tables (Nothing p) None = Ok (step.Pipe p)
of_form tables (Nothing p) (Some text) = Err refused.UnknownStep
of_form tables (Number low high make) None = Err refused.UnknownStep
of_form tables (Number low high make) (Some text) = of_number make (number_in low high (written_number text))
of_form tables (Text low high make) None = Err refused.UnknownStep
of_form tables (Text low high make) (Some text) = if is_sized low high text then Ok (step.Pipe (make text)) else Err refused.OutOfRange
of_form tables OfTable None = Err refused.UnknownStep
of_form tables OfTable (Some text) = of_table tables (before_space text) (behind_space text)

-- and for the form of a name, where there is one
abbrev pub of_name : NamedTables → Option Form → Option (List ℕ) → Meant
of_name tables None argument = Err refused.UnknownStep
of_name tables (Some form) argument = of_form tables form argument

-- what a word means beside tables: its name ends at its first space, and what follows that is its argument
abbrev pub word_means : NamedTables → List ℕ → Meant
word_means tables word = of_name tables (form_of step_forms (before_space word)) (behind_space word)
