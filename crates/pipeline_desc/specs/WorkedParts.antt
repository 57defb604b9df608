-- Descriptions of the second version that are written out, and what they mean.
use Rattle.std.specs.Prelude.{◌≡◌, ℕ, List, [], ◌∷◌, ◌++◌, codes, Some, None}
use Rattle.device_port.specs.Device.{is_read, is_write, to_read, to_write}
use Rattle.pull_nodes.specs.declared.pipe.Pipe.TheVariants as pipe
use Rattle.pipeline_desc.specs.Meant.{PlanMeant}
use Rattle.pipeline_desc.specs.Nodes.{events_of, rows_for, scopes_of}
use Rattle.pipeline_desc.specs.Places.{all_places, rows_of}
use Rattle.pipeline_desc.specs.Worked.{IsPlanOf, IsRefused, lines_with, plan_by_default, rows_from_to, stream_of, stream_with, table_named_so, table_of, times}
use Rattle.pipeline_desc.specs.declared.group.GroupSpec.{GroupSpec}
use Rattle.pipeline_desc.specs.declared.listing.ListSpec.{ListSpec}
use Rattle.pipeline_desc.specs.declared.refusal.Position.TheVariants.{Nowhere, InStream, AtStep}
use Rattle.pipeline_desc.specs.declared.refusal.RefusalKind.TheVariants as refused
use Rattle.pipeline_desc.specs.declared.step.Step.{Step}
use Rattle.pipeline_desc.specs.declared.step.Step.TheVariants as step
use Rattle.pipeline_desc.specs.declared.stream.StreamSpec.{StreamSpec}

-- a text of the second version
abbrev pub second : List ℕ → List ℕ
second keys = codes "version = 2\n" ++ keys

-- the keys of groups and of a list are known exactly where the version is the integer 2
abbrev pub VersionsMean : Type 0
VersionsMean =
    IsRefused (codes "group = []\n") refused.UnknownKey Nowhere
    × IsRefused (codes "version = 1\nlist = {}\n") refused.UnknownKey Nowhere
    × IsRefused (codes "version = 2.0\ngroup = []\n") refused.UnknownKey Nowhere
    × IsRefused (codes "version = 3\ngroup = []\n") refused.UnknownKey Nowhere
    × IsRefused (codes "version = 2.0\n") refused.WrongType Nowhere
    × IsRefused (codes "version = 3\n") refused.OutOfRange Nowhere
    × IsRefused (second (codes "groups = []\n")) refused.UnknownKey Nowhere
    × IsRefused (second (second [])) refused.NotToml Nowhere
    × IsPlanOf (second []) (plan_by_default [])
    × IsPlanOf (second (codes "group = []\n")) (plan_by_default [])

-- the arrays of the top and its list, then each group in order, and then how many there are in all, before the first table
abbrev pub PartsMean : Type 0
PartsMean =
    IsRefused (second (codes "queue = 0\ngroup = 1\n")) refused.OutOfRange Nowhere
    × IsRefused (second (codes "group = [1]\n")) refused.WrongType Nowhere
    × IsRefused (second (codes "[[group.stream]]\npath = 'a'\n")) refused.WrongType Nowhere
    × IsRefused (second (codes "[[list]]\npath = 'l'\n")) refused.WrongType Nowhere
    × IsRefused (second (codes "list = 1\ngroup = [" ++ times 17 (codes "{},") ++ codes "]\n")) refused.OutOfRange Nowhere
    × IsRefused (second (codes "list = []\ngroup = [{x = 1}]\n")) refused.WrongType Nowhere
    × IsRefused (second (codes "group = [{x = 1, table = 1}]\n")) refused.UnknownKey Nowhere
    × IsRefused (second (codes "group = [{group = []}]\n")) refused.UnknownKey Nowhere
    × IsRefused (second (codes "group = [{table = {}}, {x = 1}]\n")) refused.WrongType Nowhere
    × IsRefused (second (codes "group = [{stream = [1]}, {x = 1}]\n")) refused.WrongType Nowhere
    × IsRefused (second (codes "table = [" ++ times 8 (codes "{},") ++ codes "]\ngroup = [{table = [{}], stream = 1}]\n")) refused.WrongType Nowhere
    × IsRefused (second (codes "table = [" ++ times 8 (codes "{},") ++ codes "]\ngroup = [{table = [{}]}]\n")) refused.OutOfRange Nowhere
    × IsRefused (second (codes "table = [{}]\ngroup = [{table = [" ++ times 7 (codes "{},") ++ codes "]}]\n")) refused.WrongType Nowhere
    × IsPlanOf (second (codes "group = [{}]\n"))
    (record (plan_by_default []) { groups = record { tables = record { from = 0; to = 0 }; streams = record { from = 0; to = 0 } } ∷ [] })

-- a group with a table of this name, and a stream of this file with these steps
abbrev pub group_with : List ℕ → List ℕ → List ℕ → List ℕ
group_with name path steps =
    codes "[[group]]\ntable = [{name = '" ++ name ++ codes "', path = 't.csv'}]\nstream = [{path = '" ++ path ++ codes "', steps = [" ++ steps ++ codes "]}]\n"

-- the tables and streams of these numbers as a group
abbrev pub group_of : ℕ → ℕ → ℕ → ℕ → GroupSpec
group_of table tables stream streams = record { tables = record { from = table; to = tables }; streams = record { from = stream; to = streams } }

-- one stream of rows that looks up a table of this number
abbrev pub looking_up : List ℕ → ℕ → StreamSpec
looking_up path t = stream_of path (step.Pipe pipe.Csv ∷ step.Pipe (pipe.Lookup t 0) ∷ [])

-- a lookup in a table of a group
abbrev pub OneGroupMeans : Type 0
OneGroupMeans =
    IsPlanOf (second (group_with (codes "t") (codes "a.csv") (codes "'csv', 'lookup t 0'")))
    (record (plan_by_default (looking_up (codes "a.csv") 0 ∷ [])) { tables = table_of (codes "t") (codes "t.csv") ∷ []; groups = group_of 0 1 0 1 ∷ [] })

-- the top's tables and streams come first, and then group by group; a stream looks up the tables of the top and of its own group, and all tables are read
-- before the first stream; names differ over all tables, and `until` and `to` are of the whole description
abbrev pub GroupsMean : Type 0
GroupsMean =
    IsPlanOf (second (table_named_so (codes "t") ++ stream_with [] ++ group_with (codes "u") (codes "b") (codes "'csv', 'lookup u 0'") ++ group_with (codes "v") (codes "c") (codes "'csv', 'lookup t 0'")))
    (record (plan_by_default (stream_of (codes "a") [] ∷ looking_up (codes "b") 1 ∷ looking_up (codes "c") 0 ∷ [])) {
      tables = table_of (codes "t") (codes "t.csv") ∷ table_of (codes "u") (codes "t.csv") ∷ table_of (codes "v") (codes "t.csv") ∷ [];
      groups = group_of 1 2 1 2 ∷ group_of 2 3 2 3 ∷ [];
    })
    × IsRefused (second (stream_with (codes "steps = ['csv', 'lookup u 0']\n") ++ group_with (codes "u") (codes "b") [])) refused.UnknownTable (AtStep 0 1)
    × IsRefused (second (group_with (codes "u") (codes "b") [] ++ group_with (codes "v") (codes "c") (codes "'csv', 'lookup u 0'"))) refused.UnknownTable (AtStep 1 1)
    × IsRefused (second (group_with (codes "u") (codes "b") [] ++ group_with (codes "u") (codes "c") [])) refused.OutOfRange Nowhere
    × IsRefused (second (codes "stream = [{}]\ngroup = [{table = [{}]}]\n")) refused.WrongType Nowhere
    × IsRefused (second (stream_with (codes "until = 2\n") ++ group_with (codes "u") (codes "b") [])) refused.BadUntil (InStream 0)
    × IsRefused (second (stream_with (codes "to = 't.csv'\n") ++ group_with (codes "u") (codes "b") [])) refused.OutOfRange (InStream 0)
    × IsRefused (second (stream_with (codes "to = 'b'\n") ++ group_with (codes "u") (codes "b") [])) refused.OutOfRange (InStream 0)
    × IsRefused (second (codes "group = [{stream = [{path = 'a', to = 'c'}]}, {stream = [{path = 'b', to = 'c'}]}]\n")) refused.OutOfRange (InStream 0)
    × IsRefused (second (codes "group = [{table = [{name = 't', path = 'a'}]}, {stream = [{path = 'b', steps = ['csv', 'lookup t 0']}]}]\n")) refused.UnknownTable (AtStep 0 1)
    × IsPlanOf (second (codes "[[group]]\n" ++ group_with (codes "t") (codes "a.csv") (codes "'csv', 'lookup t 0'")))
    (record (plan_by_default (looking_up (codes "a.csv") 0 ∷ [])) { tables = table_of (codes "t") (codes "t.csv") ∷ []; groups = group_of 0 0 0 0 ∷ group_of 0 1 0 1 ∷ [] })

-- a list of this file, with these further keys
abbrev pub list_with : List ℕ → List ℕ
list_with keys = codes "[list]\npath = 'l'\n" ++ keys

-- a list with the other values as they are where none is given
abbrev pub list_of : List ℕ → List Step → ListSpec
list_of path steps = record { path = path; steps = steps; on_fault = None; max = 64 }

-- the list comes behind the described streams and has the number behind theirs: its keys in their order, `max` with the streams in all, and then the steps;
-- it looks up the tables of the top; and then what is written
abbrev pub ListsMean : Type 0
ListsMean =
    IsPlanOf (second (codes "max_open = 1\n" ++ list_with [])) (record (plan_by_default []) { max_open = 1; list = Some (list_of (codes "l") []) })
    × IsRefused (second (codes "list = {}\n")) refused.WrongType (InStream 0)
    × IsRefused (second (stream_with [] ++ list_with (codes "x = 1\nmax = 0\n"))) refused.UnknownKey (InStream 1)
    × IsRefused (second (codes "stream = [{}]\nlist = {}\n")) refused.WrongType (InStream 0)
    × IsRefused (second (codes "list = {path = '', steps = 1}\n")) refused.OutOfRange (InStream 0)
    × IsRefused (second (list_with (codes "steps = ['frob']\non_fault = 1\n"))) refused.UnknownStep (AtStep 0 0)
    × IsRefused (second (list_with (codes "on_fault = 1\nmax = 0\n"))) refused.WrongType (InStream 0)
    × IsRefused (second (list_with (codes "max = 0\nsteps = ['filter a']\n"))) refused.OutOfRange (InStream 0)
    × IsRefused (second (list_with (codes "max = -1\n"))) refused.OutOfRange (InStream 0)
    × IsRefused (second (list_with (codes "max = 1025\n"))) refused.OutOfRange (InStream 0)
    × IsRefused (second (stream_with [] ++ list_with (codes "max = 1024\n"))) refused.OutOfRange (InStream 1)
    × IsRefused (second (stream_with [] ++ list_with (codes "max = 1023\nsteps = ['lines', 'utf8']\n"))) refused.KindClash (AtStep 1 1)
    × IsRefused (second (list_with (codes "steps = ['filter a', 'intersperse a', 'intersperse b']\n"))) refused.OutOfRange (InStream 0)
    × IsRefused (second (group_with (codes "t") (codes "a") [] ++ list_with (codes "steps = ['csv', 'lookup t 0']\n"))) refused.UnknownTable (AtStep 1 1)
    × IsRefused (second (stream_with (codes "until = 1\n") ++ list_with [])) refused.BadUntil (InStream 0)
    × IsRefused (second (lines_with (codes "to = 'l'\n") ++ list_with [])) refused.OutOfRange (InStream 0)
    × IsRefused (second (lines_with (codes "to = 'l'\n") ++ list_with (codes "max = 1.0\n"))) refused.WrongType (InStream 1)
    × IsPlanOf (second (codes "list = {path = 'a'}\n" ++ stream_with [])) (record (plan_by_default (stream_of (codes "a") [] ∷ [])) { list = Some (list_of (codes "a") []) })
    × IsPlanOf (second (table_named_so (codes "t") ++ list_with (codes "steps = ['csv', 'lookup t 0']\non_fault = ''\nmax = 1024\n")))
    (record (plan_by_default []) {
      tables = table_of (codes "t") (codes "t.csv") ∷ [];
      list = Some (record { path = codes "l"; steps = step.Pipe pipe.Csv ∷ step.Pipe (pipe.Lookup 0 0) ∷ []; on_fault = Some []; max = 1024 });
    })

-- as many streams as there may be at the top and in a group, and one more
abbrev pub MostPartsMean : Type 0
MostPartsMean =
    IsRefused (second (codes "stream = [" ++ times 1023 (codes "{},") ++ codes "]\ngroup = [{stream = [{}]}]\n")) refused.WrongType (InStream 0)
    × IsRefused (second (codes "stream = [" ++ times 1024 (codes "{},") ++ codes "]\ngroup = [{stream = [{}]}]\n")) refused.OutOfRange Nowhere

-- a plan of one table, a list, and a stream that is written in a group
abbrev pub plan_of_parts : PlanMeant
plan_of_parts = record (plan_by_default (record (stream_of (codes "a") []) { to = Some (codes "c") } ∷ [])) {
  tables = table_of (codes "t") (codes "t.csv") ∷ [];
  groups = group_of 0 1 0 1 ∷ [];
  list = Some (record { path = codes "l"; steps = step.Pipe pipe.Lines ∷ []; on_fault = Some (codes "lost"); max = 2 });
}

-- the outer stream's rows come first, the list's behind those of the tables; then those of each described stream, and one for each stream of the list; and
-- each stream notes the end of each of the outer stream's rows
abbrev pub PartsFollow : Type 0
PartsFollow =
    (rows_of plan_of_parts 0 ≡ rows_from_to 2 4)
    × (rows_of plan_of_parts 1 ≡ rows_from_to 4 5)
    × (rows_of plan_of_parts 2 ≡ rows_from_to 5 6)
    × (all_places plan_of_parts.tables plan_of_parts.list plan_of_parts.streams ≡ to_read (codes "t.csv") ∷ to_read (codes "l") ∷ to_write (codes "c") ∷ to_read (codes "a") ∷ [])
    × (rows_for is_read plan_of_parts 2 ≡ Some (5 ∷ []))
    × (rows_for is_write plan_of_parts 0 ≡ Some (2 ∷ []))
    × (scopes_of plan_of_parts 1 ≡ Some 1)
    × (events_of plan_of_parts 0 ≡ Some 8)
    × (events_of plan_of_parts 1 ≡ Some 8)
