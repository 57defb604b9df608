-- What the elements of a stream go through, by the words that stand in a description.
use Rattle.std.specs.Prelude.{◌≡◌, ◌⊎◌, ◌≢◌, ℕ, suc, ◌-◌, ◌<◌, Bool, List, [], ◌∷◌, ◌++◌, drop, length, map, take, count_by, codes, Option, Some, None, Ok, Err, unwrap_or, option_and_then, slice_get}
use Rattle.std.specs.Str.{bytes_eq}
use Rattle.chunk_core.specs.declared.code.Span.{Span}
use Rattle.toml.specs.Data.{Members}
use Rattle.pull_nodes.specs.declared.kind.Kind.{Kind}
use Rattle.pull_nodes.specs.declared.kind.Kind.TheVariants as kind
use Rattle.pipeline_desc.specs.Limits.{most_steps}
use Rattle.pipeline_desc.specs.Meant.{NamedTables, own_tables}
use Rattle.pipeline_desc.specs.Steps.{before_space, kind_behind_step, kind_joined}
use Rattle.pipeline_desc.specs.Streams.{join_named}
use Rattle.pipeline_desc.specs.declared.refusal.RefusalKind.{RefusalKind}
use Rattle.desc_laws.specs.Flaws.Key.{Name, Tables, Path, Steps, With, Join, After, To}
use Rattle.desc_laws.specs.Flaws.Part.{Table, Stream}
use Rattle.desc_laws.specs.Places.{HasText, IsGiven, document_in, entries_at, spans_in, tables_in, text_in, value_at, value_in, words_at}
use Rattle.desc_laws.specs.Words.{Meant, word_means}

-- a step by its word, and the join by its name; its place is there without one too
pub data Stage : Type 0 where
  Word : List ℕ → Stage
  Joined : Option (List ℕ) → Stage

-- those of stream k, in the order of their numbers: the steps, the join, and the steps behind it
abbrev pub stages_of : List ℕ → ℕ → List Stage
stages_of bytes k = map Word (words_at bytes k Steps) ++ Joined (text_in (value_at bytes (Stream k) Join)) ∷ map Word (words_at bytes k After)

-- the names of these tables, the first of which has the number i
abbrev pub names_from : ℕ → List Members → NamedTables
names_from i [] = []
names_from i (ms ∷ more) = (unwrap_or (text_in (value_in ms Name)) [], i) ∷ names_from (suc i) more

-- the names of all tables
abbrev pub all_names : List ℕ → NamedTables
all_names bytes = names_from 0 (tables_in bytes)

-- of these names those of the numbers of a span
abbrev pub names_within : Span → NamedTables → NamedTables
names_within span names = take (span.to - span.from) (drop span.from names)

-- the names of the tables that stream k may look up: those of the top, and those of its group
abbrev pub names_in : List ℕ → ℕ → NamedTables
names_in bytes k = take (length (entries_at (document_in bytes) Tables)) (all_names bytes) ++ names_within (own_tables (spans_in bytes) k) (all_names bytes)

-- stage i of stream k is a word of which this is wrong
abbrev pub IsWrongWord : List ℕ → ℕ → ℕ → RefusalKind → Type 0
IsWrongWord bytes k i wrong = (word : List ℕ) × (slice_get (stages_of bytes k) i ≡ Some (Word word)) × (word_means (names_in bytes k) word ≡ Err wrong)

-- a second side without a join, a join without a second side, or steps behind it without one
abbrev pub IsHalfJoined : List ℕ → ℕ → Type 0
IsHalfJoined bytes k =
    (IsGiven bytes (Stream k) With × (IsGiven bytes (Stream k) Join → ⊥))
    ⊎ ((IsGiven bytes (Stream k) Join × (IsGiven bytes (Stream k) With → ⊥)) ⊎ ((words_at bytes k After ≢ []) × (IsGiven bytes (Stream k) With → ⊥)))

-- all words of stream k
abbrev pub words_of : List ℕ → ℕ → List (List ℕ)
words_of bytes k = words_at bytes k Steps ++ words_at bytes k After

-- the word puts a line between each two
abbrev pub is_between_word : List ℕ → Bool
is_between_word word = bytes_eq (before_space word) (codes "intersperse")

-- more steps than a stream may have, and more than one that puts a line between each two
abbrev pub HasManySteps : List ℕ → ℕ → Type 0
HasManySteps bytes k = most_steps < length (words_of bytes k)

abbrev pub HasTwoBetween : List ℕ → ℕ → Type 0
HasTwoBetween bytes k = 1 < count_by is_between_word (words_of bytes k)

-- the kind behind what a word means, and behind a join, where they take the kind before them
abbrev pub kind_behind_meant : Meant → Kind → Option Kind
kind_behind_meant (Ok s) j = kind_behind_step s j
kind_behind_meant (Err wrong) j = None

abbrev pub kind_behind_join : Option (List ℕ) → Kind → Option Kind
kind_behind_join None j = Some j
kind_behind_join (Some name) j = option_and_then (λ join. kind_joined join j) (join_named name)

-- the kind behind a stage
abbrev pub kind_behind_stage : NamedTables → Stage → Kind → Option Kind
kind_behind_stage tables (Word word) j = kind_behind_meant (word_means tables word) j
kind_behind_stage tables (Joined name) j = kind_behind_join name j

-- the kind behind all of these
abbrev pub kind_behind : NamedTables → List Stage → Kind → Option Kind
kind_behind tables [] j = Some j
kind_behind tables (s ∷ stages) j = option_and_then (kind_behind tables stages) (kind_behind_stage tables s j)

-- stage i of stream k doesn't take the kind of what comes to it, where the file's bytes go through those before it
abbrev pub HasOtherKind : List ℕ → ℕ → ℕ → Type 0
HasOtherKind bytes k i =
    (s : Stage) × (j : Kind) × (slice_get (stages_of bytes k) i ≡ Some s) × (kind_behind (names_in bytes k) (take i (stages_of bytes k)) kind.Bytes ≡ Some j) × (kind_behind_stage (names_in bytes k) s j ≡ None)

-- the text is a path of the description beside that at `to` in stream k: of a table, a stream's or the list's `path`, a stream's `with`, or the `to` of
-- another stream
abbrev pub IsPathBeside : List ℕ → ℕ → List ℕ → Type 0
IsPathBeside bytes k text =
    ((i : ℕ) × HasText bytes (Table i) Path text)
    ⊎ ((j : ℕ) × (HasText bytes (Stream j) Path text ⊎ (HasText bytes (Stream j) With text ⊎ ((j ≢ k) × HasText bytes (Stream j) To text))))

-- stream k writes to another path of the description
abbrev pub HasOtherPath : List ℕ → ℕ → Type 0
HasOtherPath bytes k = (to : List ℕ) × HasText bytes (Stream k) To to × IsPathBeside bytes k to
