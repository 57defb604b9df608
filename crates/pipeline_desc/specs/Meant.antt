-- What contracts see of a plan.
use Rattle.std.specs.Prelude.{ℕ, suc, ◌+◌, ◌-◌, List, [], ◌∷◌, ◌++◌, drop, length, take, Option, Some, None, if◌then◌else◌}
use Rattle.std.specs.Option.{option_or}
use Rattle.std.specs.Prelude.{slice_get}
use Rattle.chunk_core.specs.declared.code.Span.{Span}
use Rattle.pull_nodes.specs.Placed.{is_within}
use Rattle.pipeline_desc.specs.declared.group.GroupSpec.{GroupSpec}
use Rattle.pipeline_desc.specs.declared.listing.ListSpec.{ListSpec}
use Rattle.pipeline_desc.specs.declared.stream.StreamSpec.{StreamSpec}
use Rattle.pipeline_desc.specs.declared.table.TableSpec.{TableSpec}

-- how many streams may be open at a time, how many loads may wait, the most bytes of a read, the most frames or no such limit, the tables and the streams
-- of the top and of all groups, the groups, and the list of further streams, where there is one
pub record PlanMeant : Type 0 where
  pub max_open : ℕ
  pub queue : ℕ
  pub chunk : ℕ
  pub take : Option ℕ
  pub tables : List TableSpec
  pub streams : List StreamSpec
  pub groups : List GroupSpec
  pub list : Option ListSpec

-- tables by their names, each with its number
abbrev pub NamedTables : Type 0
NamedTables = List (List ℕ × ℕ)

-- the names of tables, the first of which has the number i
abbrev pub named_from : ℕ → List TableSpec → NamedTables
named_from i [] = []
named_from i (t ∷ ts) = (t.name, i) ∷ named_from (suc i) ts

-- what the keys of a stream may name: the tables that it may look up, and streams by their numbers
pub record SettingMeant : Type 0 where
  pub tables : NamedTables
  pub count : ℕ

-- that of a stream beside these tables, where there are so many streams
abbrev pub setting_of : List TableSpec → ℕ → SettingMeant
setting_of tables count = record { tables = named_from 0 tables; count = count }

-- how many of so many tables, and of so many streams, stand at the top: those before the first group's
abbrev pub top_tables : ℕ → List GroupSpec → ℕ
top_tables count [] = count
top_tables count (g ∷ groups) = g.tables.from

abbrev pub top_streams : ℕ → List GroupSpec → ℕ
top_streams count [] = count
top_streams count (g ∷ groups) = g.streams.from

-- the numbers of the tables of the group of stream k, and none where it stands in no group
abbrev pub own_tables : List GroupSpec → ℕ → Span
own_tables [] k = record { from = 0; to = 0 }
own_tables (g ∷ groups) k = if is_within g.streams k then g.tables else own_tables groups k

-- the tables of these numbers
abbrev pub named_within : Span → List TableSpec → NamedTables
named_within span tables = named_from span.from (take (span.to - span.from) (drop span.from tables))

-- the tables that stream k may look up: those of the top, and those of its group
abbrev pub seen_tables : List TableSpec → List GroupSpec → ℕ → NamedTables
seen_tables tables groups k = named_from 0 (take (top_tables (length tables) groups) tables) ++ named_within (own_tables groups k) tables

-- what the keys of stream k may name beside tables and groups, where there are so many streams
abbrev pub setting_at : List TableSpec → List GroupSpec → ℕ → ℕ → SettingMeant
setting_at tables groups count k = record { tables = seen_tables tables groups k; count = count }

-- the stream of the list that reads this file
abbrev pub listed_stream : ListSpec → List ℕ → StreamSpec
listed_stream l line = record { path = line; steps = l.steps; second = None; on_fault = l.on_fault; to = None; until = None }

-- how many streams the list may have, and none without a list
abbrev pub listed_limit : Option ListSpec → ℕ
listed_limit None = 0
listed_limit (Some l) = l.max

-- stream i of the list where it reads this file, and none without a list
abbrev pub listed_at : Option ListSpec → List ℕ → Option StreamSpec
listed_at None line = None
listed_at (Some l) line = Some (listed_stream l line)

-- how many streams there may be: those that are described, and behind them as many as the list may have
abbrev pub stream_limit : PlanMeant → ℕ
stream_limit p = length p.streams + listed_limit p.list

-- stream k: one that is described, or behind these one of the list, which reads this file
abbrev pub stream_at : PlanMeant → List ℕ → ℕ → Option StreamSpec
stream_at p line k = option_or (slice_get p.streams k) (listed_at p.list line)
