-- What the keys of a description say of its plan.
use Rattle.std.specs.Prelude.{◌≡◌, ℕ, ◌+◌, List, [], ◌∷◌, length, codes, Option, Some, None, Ok, pos}
use Rattle.toml.specs.Data.{Data, Members, as_integer, as_str}
use Rattle.pipeline_desc.specs.Meant.{NamedTables, PlanMeant}
use Rattle.pipeline_desc.specs.declared.join.Join.{Join}
use Rattle.pipeline_desc.specs.declared.join.Join.TheVariants as join
use Rattle.pipeline_desc.specs.declared.listing.ListSpec.{ListSpec}
use Rattle.pipeline_desc.specs.declared.step.Step.{Step}
use Rattle.pipeline_desc.specs.declared.stream.Second.{Second}
use Rattle.pipeline_desc.specs.declared.stream.StreamSpec.{StreamSpec}
use Rattle.pipeline_desc.specs.declared.table.TableSpec.{TableSpec}
use Rattle.desc_laws.specs.Flaws.Key.{MaxOpen, Queue, Chunk, Take, Name, Path, Steps, With, Join as JoinKey, After, OnFault, To, Until, Max}
use Rattle.desc_laws.specs.Flaws.Part.{Top, Table, Stream}
use Rattle.desc_laws.specs.Places.{list_in, spans_in, streams_in, tables_in, value_at, words_at}
use Rattle.desc_laws.specs.Stages.{names_in}
use Rattle.desc_laws.specs.Words.{word_means}

-- the number is what stands there, and the other one where nothing does
abbrev pub SaysNumber : Option Data → ℕ → ℕ → Type 0
SaysNumber None otherwise n = n ≡ otherwise
SaysNumber (Some d) otherwise n = as_integer d ≡ Some (pos n)

-- there is a limit where a number stands there, which is this
abbrev pub SaysLimit : Option Data → Option ℕ → Type 0
SaysLimit None limit = limit ≡ None
SaysLimit (Some d) limit = (n : ℕ) × (as_integer d ≡ Some (pos n)) × (limit ≡ Some n)

-- the text stands there
abbrev pub SaysText : Option Data → List ℕ → Type 0
SaysText None text = ⊥
SaysText (Some d) text = as_str d ≡ Some text

-- the table's name and path are what stands in table i
pub record SaysTable (bytes : List ℕ) (i : ℕ) (t : TableSpec) : Type 0 where
  pub name : SaysText (value_at bytes (Table i) Name) t.name
  pub path : SaysText (value_at bytes (Table i) Path) t.path

-- so are those of each of these, from table i on
abbrev pub SaysTables : List ℕ → ℕ → List TableSpec → Type 0
SaysTables bytes i [] = Unit {0}
SaysTables bytes i (t ∷ tables) = SaysTable bytes i t × SaysTables bytes (i + 1) tables

-- the text is what stands there, and there is none where nothing does
abbrev pub SaysGiven : Option Data → Option (List ℕ) → Type 0
SaysGiven None given = given ≡ None
SaysGiven (Some d) given = (text : List ℕ) × (as_str d ≡ Some text) × (given ≡ Some text)

-- each step is what its word means beside these tables
abbrev pub SaysSteps : NamedTables → List (List ℕ) → List Step → Type 0
SaysSteps tables [] [] = Unit {0}
SaysSteps tables (word ∷ words) (s ∷ steps) = (word_means tables word ≡ Ok s) × SaysSteps tables words steps
SaysSteps tables [] (s ∷ steps) = ⊥
SaysSteps tables (word ∷ words) [] = ⊥

-- how a join is written
abbrev pub join_text : Join → List ℕ
join_text join.Append = codes "append"
join_text join.Zip = codes "zip"
join_text join.Merge = codes "merge"

-- the second side is what stands at `with`, `join` and `after` of stream k
pub record SaysSide (bytes : List ℕ) (k : ℕ) (second : Second) : Type 0 where
  pub path : SaysText (value_at bytes (Stream k) With) second.path
  pub join : SaysText (value_at bytes (Stream k) JoinKey) (join_text second.join)
  pub after : SaysSteps (names_in bytes k) (words_at bytes k After) second.after

-- there is one where these keys are there, and none where none of them says anything
abbrev pub SaysSecond : List ℕ → ℕ → Option Second → Type 0
SaysSecond bytes k None = (value_at bytes (Stream k) With ≡ None) × (value_at bytes (Stream k) JoinKey ≡ None) × (words_at bytes k After ≡ [])
SaysSecond bytes k (Some second) = SaysSide bytes k second

-- a stream is what stands in stream k
pub record SaysStream (bytes : List ℕ) (k : ℕ) (s : StreamSpec) : Type 0 where
  pub path : SaysText (value_at bytes (Stream k) Path) s.path
  pub steps : SaysSteps (names_in bytes k) (words_at bytes k Steps) s.steps
  pub second : SaysSecond bytes k s.second
  pub on_fault : SaysGiven (value_at bytes (Stream k) OnFault) s.on_fault
  pub to : SaysGiven (value_at bytes (Stream k) To) s.to
  pub until : SaysLimit (value_at bytes (Stream k) Until) s.until

-- so is each of these, from stream k on
abbrev pub SaysStreams : List ℕ → ℕ → List StreamSpec → Type 0
SaysStreams bytes k [] = Unit {0}
SaysStreams bytes k (s ∷ streams) = SaysStream bytes k s × SaysStreams bytes (k + 1) streams

-- a list is what stands behind k streams
pub record SaysList (bytes : List ℕ) (k : ℕ) (l : ListSpec) : Type 0 where
  pub path : SaysText (value_at bytes (Stream k) Path) l.path
  pub steps : SaysSteps (names_in bytes k) (words_at bytes k Steps) l.steps
  pub on_fault : SaysGiven (value_at bytes (Stream k) OnFault) l.on_fault
  pub max : SaysNumber (value_at bytes (Stream k) Max) 64 l.max

-- there is a list where one stands there
abbrev pub SaysListed : List ℕ → ℕ → List Members → Option ListSpec → Type 0
SaysListed bytes k [] o = o ≡ None
SaysListed bytes k (ms ∷ more) o = (l : ListSpec) × (o ≡ Some l) × SaysList bytes k l

-- the plan is what the keys say
pub record SaysPlan (bytes : List ℕ) (p : PlanMeant) : Type 0 where
  pub max_open : SaysNumber (value_at bytes Top MaxOpen) 4 p.max_open
  pub queue : SaysNumber (value_at bytes Top Queue) 16 p.queue
  pub chunk : SaysNumber (value_at bytes Top Chunk) 4096 p.chunk
  pub take : SaysLimit (value_at bytes Top Take) p.take
  pub count : length p.tables ≡ length (tables_in bytes)
  pub tables : SaysTables bytes 0 p.tables
  pub stream_count : length p.streams ≡ length (streams_in bytes)
  pub streams : SaysStreams bytes 0 p.streams
  pub groups : p.groups ≡ spans_in bytes
  pub list : SaysListed bytes (length (streams_in bytes)) (list_in bytes) p.list
