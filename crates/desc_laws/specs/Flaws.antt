-- What may be wrong with a description, and what is told of it.
use Rattle.std.specs.Prelude.{ℕ, List, codes, Some, None}
use Rattle.pipeline_desc.specs.declared.refusal.Refusal.{Refusal}
use Rattle.pipeline_desc.specs.declared.refusal.RefusalKind.{RefusalKind}
use Rattle.pipeline_desc.specs.declared.refusal.RefusalKind.TheVariants as refused

-- a part of a description that has keys: its top, group g, table i, or stream k; the list has the number behind the last stream's
pub data Part : Type 0 where
  Top : Part
  Group : ℕ → Part
  Table : ℕ → Part
  Stream : ℕ → Part

-- the keys of the top, two of which a group has too, then those of a table, those that a stream has beside `path`, and the one that the list alone has
pub data Key : Type 0 where
  Version : Key
  MaxOpen : Key
  Queue : Key
  Chunk : Key
  Take : Key
  Tables : Key
  Streams : Key
  Groups : Key
  Listing : Key
  Name : Key
  Path : Key
  Steps : Key
  With : Key
  Join : Key
  After : Key
  OnFault : Key
  To : Key
  Until : Key
  Max : Key

-- how a key is written
abbrev pub key_text : Key → List ℕ
key_text Version = codes "version"
key_text MaxOpen = codes "max_open"
key_text Queue = codes "queue"
key_text Chunk = codes "chunk"
key_text Take = codes "take"
key_text Tables = codes "table"
key_text Streams = codes "stream"
key_text Groups = codes "group"
key_text Listing = codes "list"
key_text Name = codes "name"
key_text Path = codes "path"
key_text Steps = codes "steps"
key_text With = codes "with"
key_text Join = codes "join"
key_text After = codes "after"
key_text OnFault = codes "on_fault"
key_text To = codes "to"
key_text Until = codes "until"
key_text Max = codes "max"

-- What may be wrong: the bytes are too many, no UTF-8 or no document; a part has another key; the value at a key of a part is of another type, which one
-- that is missing though required is too, or out of its limits. Of step i of stream k: no step is written so; its argument is out of its limits; it names
-- a table that isn't there. Of stream k: one of two sides is there alone; its steps are too many; two of them put a line between each two; its step or
-- join i doesn't take the kind that it gets; it writes to another path of the description. Of all together: there are too many tables, or too many streams.
-- Of the list behind k streams: it has another key; it may have too many streams beside those.
pub data Flaw : Type 0 where
  TooLong : Flaw
  NotUtf8 : Flaw
  NotToml : Flaw
  OtherKey : Part → Flaw
  OtherType : Part → Key → Flaw
  OutOfLimits : Part → Key → Flaw
  OtherStep : ℕ → ℕ → Flaw
  OtherArgument : ℕ → ℕ → Flaw
  OtherTable : ℕ → ℕ → Flaw
  HalfJoined : ℕ → Flaw
  ManySteps : ℕ → Flaw
  TwoBetween : ℕ → Flaw
  OtherKind : ℕ → ℕ → Flaw
  OtherPath : ℕ → Flaw
  ManyTables : Flaw
  ManyStreams : Flaw
  OtherListKey : ℕ → Flaw
  ManyListed : ℕ → Flaw

-- a refusal that names no stream and no step, one that names stream k, and one that names step i of it
abbrev pub of_kind : RefusalKind → Refusal
of_kind kind = record { kind = kind; stream = None; step = None }

abbrev pub of_stream : ℕ → RefusalKind → Refusal
of_stream k kind = record { kind = kind; stream = Some k; step = None }

abbrev pub of_step : ℕ → ℕ → RefusalKind → Refusal
of_step k i kind = record { kind = kind; stream = Some k; step = Some i }

-- a refusal of what stands in a part
abbrev pub of_part : Part → RefusalKind → Refusal
of_part Top kind = of_kind kind
of_part (Group g) kind = of_kind kind
of_part (Table i) kind = of_kind kind
of_part (Stream k) kind = of_stream k kind

-- what is told of a value out of its limits
abbrev pub limit_kind : Key → RefusalKind
limit_kind Until = refused.BadUntil
limit_kind _ = refused.OutOfRange

-- what is told of a flaw
abbrev pub refusal_for : Flaw → Refusal
refusal_for TooLong = of_kind refused.TooLong
refusal_for NotUtf8 = of_kind refused.NotUtf8
refusal_for NotToml = of_kind refused.NotToml
refusal_for (OtherKey part) = of_part part refused.UnknownKey
refusal_for (OtherType part key) = of_part part refused.WrongType
refusal_for (OutOfLimits part key) = of_part part (limit_kind key)
refusal_for (OtherStep k i) = of_step k i refused.UnknownStep
refusal_for (OtherArgument k i) = of_step k i refused.OutOfRange
refusal_for (OtherTable k i) = of_step k i refused.UnknownTable
refusal_for (HalfJoined k) = of_stream k refused.OutOfRange
refusal_for (ManySteps k) = of_stream k refused.OutOfRange
refusal_for (TwoBetween k) = of_stream k refused.OutOfRange
refusal_for (OtherKind k i) = of_step k i refused.KindClash
refusal_for (OtherPath k) = of_stream k refused.OutOfRange
refusal_for ManyTables = of_kind refused.OutOfRange
refusal_for ManyStreams = of_kind refused.OutOfRange
refusal_for (OtherListKey k) = of_stream k refused.UnknownKey
refusal_for (ManyListed k) = of_stream k refused.OutOfRange
