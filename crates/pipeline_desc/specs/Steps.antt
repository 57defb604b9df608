-- What the words of steps mean, and the kinds between steps.
use Rattle.std.specs.Prelude.{ℕ, ◌+◌, Bool, true, false, ◌&&◌, ◌==◌, nat_le, List, [], ◌∷◌, length, codes, count_by, Option, Some, None, Ok, if◌then◌else◌}
use Rattle.std.specs.Char.{is_ascii_digit}
use Rattle.std.specs.List.{list_all}
use Rattle.std.specs.Str.{bytes_eq}
use Rattle.std.specs.Str.Parse.{digits_value}
use Rattle.toml.specs.Data.{Data, as_str}
use Rattle.pull_nodes.specs.Kinds.{merged_kind, paired_kind}
use Rattle.pull_nodes.specs.PipeKinds.{piped_kind}
use Rattle.pull_nodes.specs.declared.kind.Kind.{Kind}
use Rattle.pull_nodes.specs.declared.kind.Kind.TheVariants as kind
use Rattle.pull_nodes.specs.declared.pipe.Pipe.{Pipe}
use Rattle.pull_nodes.specs.declared.pipe.Pipe.TheVariants as pipe
use Rattle.pipeline_desc.specs.Limits.{is_between, is_sized, most_steps}
use Rattle.pipeline_desc.specs.Meant.{NamedTables, SettingMeant}
use Rattle.pipeline_desc.specs.Reading.{Reading, refuse, ◌>>=◌, passes, present, each_from}
use Rattle.pipeline_desc.specs.Values.{list_at}
use Rattle.pipeline_desc.specs.declared.refusal.Position.{Position}
use Rattle.pipeline_desc.specs.declared.refusal.Position.TheVariants.{InStream, AtStep}
use Rattle.pipeline_desc.specs.declared.refusal.RefusalKind.TheVariants as refused
use Rattle.pipeline_desc.specs.declared.join.Join.{Join}
use Rattle.pipeline_desc.specs.declared.join.Join.TheVariants as join
use Rattle.pipeline_desc.specs.declared.step.Step.{Step}
use Rattle.pipeline_desc.specs.declared.step.Step.TheVariants as step
use Rattle.pipeline_desc.specs.declared.stream.Second.{Second}

-- what stands before the first space
abbrev pub before_space : List ℕ → List ℕ
before_space [] = []
before_space (b ∷ word) = if b == 32 then [] else (b ∷ before_space word)

-- what stands behind the first space, where there is one
abbrev pub behind_space : List ℕ → Option (List ℕ)
behind_space [] = None
behind_space (b ∷ word) = if b == 32 then Some word else behind_space word

-- one to nine decimal digits
abbrev pub is_number : List ℕ → Bool
is_number text = is_sized 1 9 text && list_all is_ascii_digit text

-- the number that a text writes, where it writes one
abbrev pub written_number : List ℕ → Option ℕ
written_number text = if is_number text then Some (digits_value 10 text) else None

-- the argument as a number within limits
abbrev pub number_argument : ℕ → ℕ → Position → List ℕ → Reading ℕ
number_argument low high position text =
    present (written_number text) refused.OutOfRange position >>= (λ n.
    passes (is_between low high n) refused.OutOfRange position >>= (λ _. Ok n))

-- the argument as a text of so many bytes
abbrev pub text_argument : ℕ → ℕ → Position → List ℕ → Reading (List ℕ)
text_argument low high position text = passes (is_sized low high text) refused.OutOfRange position >>= (λ _. Ok text)

-- the number of the first table of this name, where there is one
abbrev pub table_named : List ℕ → NamedTables → Option ℕ
table_named name [] = None
table_named name (t ∷ tables) = if bytes_eq t.0 name then Some t.1 else table_named name tables

-- the argument as the name of a table, one space, and a number
abbrev pub lookup_argument : NamedTables → Position → List ℕ → Reading Pipe
lookup_argument tables position text =
    present (behind_space text) refused.OutOfRange position >>= (λ number.
    number_argument 0 999999999 position number >>= (λ i.
    present (table_named (before_space text) tables) refused.UnknownTable position >>= (λ t. Ok (pipe.Lookup t i))))

-- the steps that take no argument
abbrev pub plain_pipe : List ℕ → Option Pipe
plain_pipe name =
    if bytes_eq name (codes "utf8") then Some pipe.Utf8
    else if bytes_eq name (codes "lossy") then Some pipe.Lossy
    else if bytes_eq name (codes "upper") then Some pipe.Upper
    else if bytes_eq name (codes "hex") then Some pipe.Hex
    else if bytes_eq name (codes "lines") then Some pipe.Lines
    else if bytes_eq name (codes "csv") then Some pipe.Csv
    else if bytes_eq name (codes "changes") then Some pipe.Changes
    else if bytes_eq name (codes "number") then Some pipe.Number
    else if bytes_eq name (codes "count") then Some pipe.Count
    else None

-- the steps that take one
abbrev pub step_with : NamedTables → Position → List ℕ → List ℕ → Reading Step
step_with tables position name text =
    if bytes_eq name (codes "take") then number_argument 0 999999999 position text >>= (λ n. Ok (step.Take n))
    else if bytes_eq name (codes "drop") then number_argument 0 999999999 position text >>= (λ n. Ok (step.Pipe (pipe.Drop n)))
    else if bytes_eq name (codes "field") then number_argument 0 999999999 position text >>= (λ i. Ok (step.Pipe (pipe.Field i)))
    else if bytes_eq name (codes "lookup") then lookup_argument tables position text >>= (λ p. Ok (step.Pipe p))
    else if bytes_eq name (codes "filter") then text_argument 1 1024 position text >>= (λ t. Ok (step.Pipe (pipe.Filter t)))
    else if bytes_eq name (codes "intersperse") then text_argument 0 64 position text >>= (λ t. Ok (step.Pipe (pipe.Intersperse t)))
    else if bytes_eq name (codes "chunk") then number_argument 1 64 position text >>= (λ n. Ok (step.Pipe (pipe.ChunkN n)))
    else refuse refused.UnknownStep position

-- a step by its name, and its argument where it has one
abbrev pub step_named : NamedTables → Position → List ℕ → Option (List ℕ) → Reading Step
step_named tables position name None = present (plain_pipe name) refused.UnknownStep position >>= (λ p. Ok (step.Pipe p))
step_named tables position name (Some text) = step_with tables position name text

-- the word of step i of stream k
abbrev pub step_meant : SettingMeant → ℕ → ℕ → List ℕ → Reading Step
step_meant setting k i word = step_named setting.tables (AtStep k i) (before_space word) (behind_space word)

-- the words at a key, as the steps of stream k from this number on
abbrev pub steps_at : SettingMeant → ℕ → ℕ → Option Data → Reading (List Step)
steps_at setting k first d = list_at as_str (InStream k) d >>= each_from (step_meant setting k) first

-- the steps behind a second side, where there is one
abbrev pub steps_behind : Option Second → List Step
steps_behind None = []
steps_behind (Some second) = second.after

-- the step puts a line between each two
abbrev pub puts_between : Step → Bool
puts_between (step.Take n) = false
puts_between (step.Pipe (pipe.Intersperse text)) = true
puts_between (step.Pipe _) = false

-- the steps of a stream are few
abbrev pub are_few : List Step → Bool
are_few steps = nat_le (length steps) most_steps

-- at most one of them puts a line between each two
abbrev pub put_one_between : List Step → Bool
put_one_between steps = nat_le (count_by puts_between steps) 1

-- stream k may have these steps
abbrev pub are_fitting : ℕ → List Step → Reading (Unit {0})
are_fitting k steps =
    passes (are_few steps) refused.OutOfRange (InStream k) >>= (λ _. passes (put_one_between steps) refused.OutOfRange (InStream k))

-- the kind behind a step, or none where the step doesn't take the kind that it gets
abbrev pub kind_behind_step : Step → Kind → Option Kind
kind_behind_step (step.Take n) j = Some j
kind_behind_step (step.Pipe p) j = piped_kind p j

-- the kind behind the steps from number i of stream k on, the first of which gets this kind
abbrev pub kind_from : ℕ → ℕ → List Step → Kind → Reading Kind
kind_from k i [] j = Ok j
kind_from k i (s ∷ steps) j = present (kind_behind_step s j) refused.KindClash (AtStep k i) >>= kind_from k (i + 1) steps

-- the kind of two sides of this kind, or none where they don't join
abbrev pub kind_joined : Join → Kind → Option Kind
kind_joined join.Append j = Some j
kind_joined join.Zip j = paired_kind j
kind_joined join.Merge j = merged_kind j

-- the kind behind a second side and the steps behind it, where there is one; the join has this number
abbrev pub kind_of_second : ℕ → ℕ → Option Second → Kind → Reading Kind
kind_of_second k i None j = Ok j
kind_of_second k i (Some second) j = present (kind_joined second.join j) refused.KindClash (AtStep k i) >>= kind_from k (i + 1) second.after

-- the kind of what stream k gives, which begins with the bytes of its files
abbrev pub kind_given : ℕ → List Step → Option Second → Reading Kind
kind_given k steps second = kind_from k 0 steps kind.Bytes >>= kind_of_second k (length steps) second
