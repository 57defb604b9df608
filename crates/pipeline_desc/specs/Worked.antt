-- Descriptions that are written out, and what they mean.
use Rattle.std.specs.Prelude.{◌≡◌, ℕ, List, [], ◌∷◌, ◌++◌, codes, flat_map, replicate, Some, None, Ok}
use Rattle.chunk_core.specs.declared.code.Span.{Span}
use Rattle.pull_nodes.specs.declared.pipe.Pipe.TheVariants as pipe
use Rattle.pipeline_desc.specs.Meant.{PlanMeant}
use Rattle.device_port.specs.Device.{is_read, is_write, to_read, to_write}
use Rattle.pipeline_desc.specs.Nodes.{events_of, rows_for}
use Rattle.pipeline_desc.specs.Places.{all_places, rows_of}
use Rattle.pipeline_desc.specs.Plans.{plan_of}
use Rattle.pipeline_desc.specs.Reading.{refuse}
use Rattle.pipeline_desc.specs.declared.refusal.Position.{Position}
use Rattle.pipeline_desc.specs.declared.refusal.Position.TheVariants.{Nowhere, InStream, AtStep}
use Rattle.pipeline_desc.specs.declared.refusal.RefusalKind.{RefusalKind}
use Rattle.pipeline_desc.specs.declared.refusal.RefusalKind.TheVariants as refused
use Rattle.pipeline_desc.specs.declared.step.Step.{Step}
use Rattle.pipeline_desc.specs.declared.step.Step.TheVariants as step
use Rattle.pipeline_desc.specs.declared.join.Join.TheVariants as join
use Rattle.pipeline_desc.specs.declared.stream.StreamSpec.{StreamSpec}
use Rattle.pipeline_desc.specs.declared.table.TableSpec.{TableSpec}

-- the text is refused so
abbrev pub IsRefused : List ℕ → RefusalKind → Position → Type 0
IsRefused text kind position = plan_of text ≡ refuse kind position

-- the text means this plan
abbrev pub IsPlanOf : List ℕ → PlanMeant → Type 0
IsPlanOf text p = plan_of text ≡ Ok p

-- one stream with these further keys
abbrev pub stream_with : List ℕ → List ℕ
stream_with keys = codes "[[stream]]\npath = 'a'\n" ++ keys

-- one stream with these steps
abbrev pub with_steps : List ℕ → List ℕ
with_steps words = stream_with (codes "steps = [" ++ words ++ codes "]\n")

-- a plan of these streams, with all other values as they are where none is given
abbrev pub plan_by_default : List StreamSpec → PlanMeant
plan_by_default streams = record { max_open = 4; queue = 16; chunk = 4096; take = None; tables = []; streams = streams; groups = []; list = None }

-- one stream of a file, with these steps
abbrev pub stream_of : List ℕ → List Step → StreamSpec
stream_of path steps = record { path = path; steps = steps; second = None; on_fault = None; to = None; until = None }

-- bytes that are no text, texts that are no document, and a document without a key
abbrev pub DocumentsMean : Type 0
DocumentsMean =
    IsRefused (91 ∷ 255 ∷ []) refused.NotUtf8 Nowhere
    × IsRefused (codes "[[") refused.NotToml Nowhere
    × IsRefused (codes "chunk = 1\nchunk = 1\n") refused.NotToml Nowhere
    × IsPlanOf [] (plan_by_default [])

-- values of the top: keys before values, values in their order, a type before a limit
abbrev pub TopsMean : Type 0
TopsMean =
    IsRefused (codes "chunk = 0\nchunks = 1\n") refused.UnknownKey Nowhere
    × IsRefused (codes "version = 3\n") refused.OutOfRange Nowhere
    × IsRefused (codes "queue = 65\nmax_open = 'a'\n") refused.WrongType Nowhere
    × IsRefused (codes "max_open = 0\nqueue = 1.0\n") refused.OutOfRange Nowhere
    × IsRefused (codes "chunk = 65537\ntake = 'a'\n") refused.OutOfRange Nowhere
    × IsRefused (codes "take = -1\ntable = 1\n") refused.OutOfRange Nowhere
    × IsRefused (codes "table = 1\nstream = [{}, {}]\n") refused.WrongType Nowhere
    × IsRefused (codes "group = []\n") refused.UnknownKey Nowhere
    × IsPlanOf (codes "version = 1\nmax_open = 64\nqueue = 1\nchunk = 65536\ntake = 1000000000\n")
    (record { max_open = 64; queue = 1; chunk = 65536; take = Some 1000000000; tables = []; streams = []; groups = []; list = None })

-- a table of records with these further keys, and one of this name
abbrev pub table_with : List ℕ → List ℕ
table_with keys = codes "[[table]]\n" ++ keys

abbrev pub table_named_so : List ℕ → List ℕ
table_named_so name = table_with (codes "name = '" ++ name ++ codes "'\npath = 't.csv'\n")

-- one table with this name and this path
abbrev pub table_of : List ℕ → List ℕ → TableSpec
table_of name path = record { name = name; path = path }

-- tables: keys before values, the name before the path, a type before a limit, names that differ, and all tables before the first stream
abbrev pub TablesMean : Type 0
TablesMean =
    IsRefused (codes "table = [{}]\nstream = [1]\n") refused.WrongType Nowhere
    × IsRefused (codes "table = [{}, {}, {}, {}, {}, {}, {}, {}, {}]\n") refused.OutOfRange Nowhere
    × IsRefused (table_with (codes "key = 1\n")) refused.UnknownKey Nowhere
    × IsRefused (table_with (codes "path = 1\n")) refused.WrongType Nowhere
    × IsRefused (table_with (codes "name = ''\npath = 1\n")) refused.OutOfRange Nowhere
    × IsRefused (table_with (codes "name = 't'\npath = ''\n")) refused.OutOfRange Nowhere
    × IsRefused (table_named_so (codes "T")) refused.OutOfRange Nowhere
    × IsRefused (table_named_so (codes "t") ++ table_named_so (codes "t")) refused.OutOfRange Nowhere
    × IsRefused (table_named_so (codes "t") ++ codes "[[stream]]\n") refused.WrongType (InStream 0)
    × IsPlanOf (table_named_so (codes "z_9") ++ table_named_so (codes "t"))
    (record (plan_by_default []) { tables = table_of (codes "z_9") (codes "t.csv") ∷ table_of (codes "t") (codes "t.csv") ∷ [] })

-- one stream with these steps, beside two tables
abbrev pub beside_tables : List ℕ → List ℕ
beside_tables words = table_named_so (codes "u") ++ table_named_so (codes "t") ++ with_steps words

-- steps over rows: a lookup's number before its table, which is the first of its name
abbrev pub LookupsMean : Type 0
LookupsMean =
    IsRefused (beside_tables (codes "'csv 1'")) refused.UnknownStep (AtStep 0 0)
    × IsRefused (beside_tables (codes "'csv', 'field x'")) refused.OutOfRange (AtStep 0 1)
    × IsRefused (beside_tables (codes "'csv', 'lookup q'")) refused.OutOfRange (AtStep 0 1)
    × IsRefused (beside_tables (codes "'csv', 'lookup q x'")) refused.OutOfRange (AtStep 0 1)
    × IsRefused (beside_tables (codes "'csv', 'lookup q 0'")) refused.UnknownTable (AtStep 0 1)
    × IsRefused (beside_tables (codes "'csv', 'lookup t u 0'")) refused.OutOfRange (AtStep 0 1)
    × IsRefused (beside_tables (codes "'lines', 'csv'")) refused.KindClash (AtStep 0 1)
    × IsPlanOf (beside_tables (codes "'csv', 'lookup t 007', 'field 1'"))
    (record (plan_by_default (stream_of (codes "a") (step.Pipe pipe.Csv ∷ step.Pipe (pipe.Lookup 1 7) ∷ step.Pipe (pipe.Field 1) ∷ []) ∷ [])) { tables = table_of (codes "u") (codes "t.csv") ∷ table_of (codes "t") (codes "t.csv") ∷ [] })

-- one stream of lines with these further keys
abbrev pub lines_with : List ℕ → List ℕ
lines_with keys = with_steps (codes "'lines'") ++ keys

-- a second side: whole or not there, with its steps numbered behind the join, and kinds that join
abbrev pub SidesMean : Type 0
SidesMean =
    IsRefused (lines_with (codes "with = 'b'\n")) refused.OutOfRange (InStream 0)
    × IsRefused (lines_with (codes "join = 'zip'\n")) refused.OutOfRange (InStream 0)
    × IsRefused (lines_with (codes "after = ['count']\n")) refused.OutOfRange (InStream 0)
    × IsRefused (lines_with (codes "join = 'Zip'\nwith = 1\n")) refused.WrongType (InStream 0)
    × IsRefused (lines_with (codes "with = 'b'\njoin = 'Zip'\nafter = 1\n")) refused.OutOfRange (InStream 0)
    × IsRefused (lines_with (codes "after = ['shout']\n")) refused.UnknownStep (AtStep 0 2)
    × IsRefused (lines_with (codes "with = 'b'\njoin = 'zip'\nafter = ['number']\n")) refused.KindClash (AtStep 0 2)
    × IsRefused (stream_with (codes "with = 'b'\njoin = 'zip'\n")) refused.KindClash (AtStep 0 0)
    × IsRefused (stream_with (codes "with = 'b'\njoin = 'merge'\n")) refused.KindClash (AtStep 0 0)
    × IsRefused (with_steps (codes "'lines', 'intersperse a'") ++ codes "with = 'b'\njoin = 'append'\nafter = ['intersperse b']\n") refused.OutOfRange (InStream 0)
    × IsPlanOf (lines_with (codes "after = []\n")) (plan_by_default (stream_of (codes "a") (step.Pipe pipe.Lines ∷ []) ∷ []))
    × IsPlanOf (lines_with (codes "with = 'b'\njoin = 'zip'\nafter = ['field 0']\n"))
    (plan_by_default (record (stream_of (codes "a") (step.Pipe pipe.Lines ∷ [])) { second = Some (record { join = join.Zip; path = codes "b"; after = step.Pipe (pipe.Field 0) ∷ [] }) } ∷ []))

-- a path that is written is no other path of the description
abbrev pub OutputsMean : Type 0
OutputsMean =
    IsRefused (lines_with (codes "on_fault = 1\nto = 1\n")) refused.WrongType (InStream 0)
    × IsRefused (lines_with (codes "to = ''\n")) refused.OutOfRange (InStream 0)
    × IsRefused (lines_with (codes "to = 'a'\n")) refused.OutOfRange (InStream 0)
    × IsRefused (lines_with (codes "to = 'b'\nwith = 'b'\njoin = 'zip'\n")) refused.OutOfRange (InStream 0)
    × IsRefused (beside_tables (codes "'csv'") ++ codes "to = 't.csv'\n") refused.OutOfRange (InStream 0)
    × IsRefused (with_steps (codes "'lines', 'utf8'") ++ codes "to = 'a'\n") refused.KindClash (AtStep 0 1)
    × IsPlanOf (lines_with (codes "to = 'b'\nwith = 'a'\njoin = 'append'\n"))
    (plan_by_default (record (stream_of (codes "a") (step.Pipe pipe.Lines ∷ [])) { second = Some (record { join = join.Append; path = codes "a"; after = [] }); to = Some (codes "b") } ∷ []))

-- values of a stream: keys before values, values in their order, a type before a limit
abbrev pub StreamsMean : Type 0
StreamsMean =
    IsRefused (codes "[[stream]]\nstep = []\n") refused.UnknownKey (InStream 0)
    × IsRefused (codes "[[stream]]\nsteps = 1\n") refused.WrongType (InStream 0)
    × IsRefused (codes "[[stream]]\npath = ''\nsteps = 1\n") refused.OutOfRange (InStream 0)
    × IsRefused (with_steps (codes "'frob', 1")) refused.WrongType (InStream 0)
    × IsRefused (with_steps (codes "'frob'") ++ codes "on_fault = 1\n") refused.UnknownStep (AtStep 0 0)
    × IsRefused (with_steps (codes "'lines', 'utf8'") ++ codes "on_fault = 1\n") refused.WrongType (InStream 0)
    × IsPlanOf (stream_with (codes "on_fault = ''\n")) (plan_by_default (record (stream_of (codes "a") []) { on_fault = Some [] } ∷ []))

-- words of steps: unknown names, arguments that are wanting or not taken, numbers, and texts
abbrev pub StepsMean : Type 0
StepsMean =
    IsRefused (with_steps (codes "'take', 'x'")) refused.UnknownStep (AtStep 0 0)
    × IsRefused (with_steps (codes "'upper', 'lines '")) refused.UnknownStep (AtStep 0 1)
    × IsRefused (with_steps (codes "'take x'")) refused.OutOfRange (AtStep 0 0)
    × IsRefused (with_steps (codes "'take 0000000001'")) refused.OutOfRange (AtStep 0 0)
    × IsRefused (with_steps (codes "'chunk 65'")) refused.OutOfRange (AtStep 0 0)
    × IsRefused (with_steps (codes "'lines', 'filter '")) refused.OutOfRange (AtStep 0 1)
    × IsPlanOf (with_steps (codes "'drop 000000001', 'lines', 'filter a  b', 'intersperse '"))
    (plan_by_default (stream_of (codes "a") (step.Pipe (pipe.Drop 1) ∷ step.Pipe pipe.Lines ∷ step.Pipe (pipe.Filter (codes "a  b")) ∷ step.Pipe (pipe.Intersperse []) ∷ []) ∷ []))

-- what holds of all steps of a stream: their number, what puts lines between, and the kinds, in this order
abbrev pub KindsMean : Type 0
KindsMean =
    IsRefused (with_steps (codes "'lines', 'utf8'")) refused.KindClash (AtStep 0 1)
    × IsRefused (with_steps (codes "'upper', 'filter E', 'frob'")) refused.UnknownStep (AtStep 0 2)
    × IsRefused (with_steps (codes "'upper', 'filter E'")) refused.KindClash (AtStep 0 1)
    × IsRefused (with_steps (codes "'intersperse a', 'intersperse b'")) refused.OutOfRange (InStream 0)
    × IsRefused (with_steps (codes "'hex', 'hex', 'hex', 'hex', 'hex', 'hex', 'hex', 'hex', 'hex', 'hex', 'hex', 'hex', 'hex', 'hex', 'hex', 'hex', 'hex'")) refused.OutOfRange (InStream 0)

-- two streams with these further keys
abbrev pub two_with : List ℕ → List ℕ → List ℕ
two_with first second = stream_with first ++ codes "[[stream]]\npath = 'b'\n" ++ second

-- several streams: all that is of one before the next one, and what is written last of all
abbrev pub SeveralStreamsMean : Type 0
SeveralStreamsMean =
    IsPlanOf (two_with [] []) (plan_by_default (stream_of (codes "a") [] ∷ stream_of (codes "b") [] ∷ []))
    × IsPlanOf (two_with [] (codes "with = 'a'\njoin = 'append'\n"))
    (plan_by_default (stream_of (codes "a") [] ∷ record (stream_of (codes "b") []) { second = Some (record { join = join.Append; path = codes "a"; after = [] }) } ∷ []))
    × IsRefused (two_with (codes "steps = ['upper', 'number']\n") (codes "step = []\n")) refused.KindClash (AtStep 0 1)
    × IsRefused (two_with [] (codes "steps = ['upper', 'number']\n")) refused.KindClash (AtStep 1 1)
    × IsRefused (two_with (codes "to = 'a'\n") (codes "steps = 1\n")) refused.WrongType (InStream 1)
    × IsRefused (two_with (codes "to = 'b'\n") []) refused.OutOfRange (InStream 0)
    × IsRefused (two_with [] (codes "to = 'a'\n")) refused.OutOfRange (InStream 1)
    × IsRefused (two_with (codes "to = 'c'\n") (codes "to = 'c'\n")) refused.OutOfRange (InStream 0)
    × IsPlanOf (two_with (codes "to = 'c'\n") (codes "to = 'd'\n"))
    (plan_by_default (record (stream_of (codes "a") []) { to = Some (codes "c") } ∷ record (stream_of (codes "b") []) { to = Some (codes "d") } ∷ []))

-- a stream that another one's end interrupts: it is there, and it is another one; the last of a stream's keys, before what holds of several of them
abbrev pub UntilMeans : Type 0
UntilMeans =
    IsRefused (stream_with (codes "until = 0\n")) refused.BadUntil (InStream 0)
    × IsRefused (stream_with (codes "until = 1\n")) refused.BadUntil (InStream 0)
    × IsRefused (stream_with (codes "until = -1\n")) refused.BadUntil (InStream 0)
    × IsRefused (stream_with (codes "until = 0.0\n")) refused.WrongType (InStream 0)
    × IsRefused (two_with [] (codes "until = 1\n")) refused.BadUntil (InStream 1)
    × IsRefused (two_with (codes "until = 2\n") (codes "until = 'a'\n")) refused.BadUntil (InStream 0)
    × IsRefused (stream_with (codes "to = ''\nuntil = 0\n")) refused.OutOfRange (InStream 0)
    × IsRefused (stream_with (codes "with = 'b'\nuntil = 0\n")) refused.BadUntil (InStream 0)
    × IsRefused (lines_with (codes "after = ['utf8']\nuntil = 0\n")) refused.BadUntil (InStream 0)
    × IsPlanOf (two_with (codes "until = 1\n") (codes "until = 0\n"))
    (plan_by_default (record (stream_of (codes "a") []) { until = Some 1 } ∷ record (stream_of (codes "b") []) { until = Some 0 } ∷ []))

-- a text so many times
abbrev pub times : ℕ → List ℕ → List ℕ
times n text = flat_map {X = ℕ} (λ _. text) (replicate n 0)

-- as many streams as there may be, and one more
abbrev pub MostStreamsMean : Type 0
MostStreamsMean =
    IsRefused (codes "stream = [" ++ times 1024 (codes "{},") ++ codes "]\n") refused.WrongType (InStream 0)
    × IsRefused (codes "stream = [" ++ times 1025 (codes "{},") ++ codes "]\n") refused.OutOfRange Nowhere

-- errors of a log, numbered
abbrev pub LogMeans : Type 0
LogMeans =
    IsPlanOf (codes "[[stream]]\npath = 'app.log'\nsteps = ['utf8', 'lines', 'filter ERROR', 'number', 'take 02']\n")
    (plan_by_default (stream_of (codes "app.log") (step.Pipe pipe.Utf8 ∷ step.Pipe pipe.Lines ∷ step.Pipe (pipe.Filter (codes "ERROR")) ∷ step.Pipe pipe.Number ∷ step.Take 2 ∷ []) ∷ []))

-- a stream with two files and an output
abbrev pub stream_of_three : StreamSpec
stream_of_three = record (stream_of (codes "a") []) { second = Some (record { join = join.Append; path = codes "b"; after = [] }); to = Some (codes "c") }

-- a plan of two streams behind a table
abbrev pub plan_of_two : PlanMeant
plan_of_two = record (plan_by_default (stream_of_three ∷ record (stream_of (codes "d") []) { on_fault = Some (codes "lost"); until = Some 0 } ∷ [])) {
  tables = table_of (codes "t") (codes "t.csv") ∷ [];
}

-- a text of that plan
abbrev pub TwoMean : Type 0
TwoMean =
    IsPlanOf
    (codes "[[stream]]\npath = 'a'\nto = 'c'\nwith = 'b'\njoin = 'append'\n[[stream]]\npath = 'd'\non_fault = 'lost'\nuntil = 0\n" ++ table_named_so (codes "t"))
    plan_of_two

abbrev pub rows_from_to : ℕ → ℕ → Span
rows_from_to from to = record { from = from; to = to }

-- each stream has its rows behind those of the table and of the streams before it: first that of its output, then those of its files; and it notes the
-- end of the table too
abbrev pub RowsFollow : Type 0
RowsFollow =
    (rows_of plan_of_two 0 ≡ rows_from_to 1 4)
    × (rows_of plan_of_two 1 ≡ rows_from_to 4 5)
    × (all_places plan_of_two.tables plan_of_two.list plan_of_two.streams ≡ to_read (codes "t.csv") ∷ to_write (codes "c") ∷ to_read (codes "a") ∷ to_read (codes "b") ∷ to_read (codes "d") ∷ [])
    × (rows_for is_read plan_of_two 0 ≡ Some (2 ∷ 3 ∷ []))
    × (rows_for is_write plan_of_two 0 ≡ Some (1 ∷ []))
    × (events_of plan_of_two 0 ≡ Some 9)
    × (events_of plan_of_two 1 ≡ Some 7)
    × (events_of plan_of_two 2 ≡ None)
