-- Which tables the streams of a plan see.
use Rattle.std.specs.Prelude.{ℕ, nat_lt, if◌then◌else◌, List, [], ◌∷◌, length, None}
use Rattle.chunk_core.specs.Tables.{Values}
use Rattle.pipeline_desc.specs.Meant.{PlanMeant, top_tables}
use Rattle.pipeline_desc.specs.declared.group.GroupSpec.{GroupSpec}
use Rattle.pull_nodes.specs.Placed.{is_within}

-- the numbers of the tables that a stream of one of these groups sees end where those of its group do, and those of another stream here
abbrev pub visible_in : ℕ → List GroupSpec → ℕ → ℕ
visible_in top [] k = top
visible_in top (g ∷ groups) k = if is_within g.streams k then g.tables.to else visible_in top groups k

-- the number of the first table behind all that stream k sees: it sees those of the top and of its group
abbrev pub visible : PlanMeant → ℕ → ℕ
visible p k = visible_in (top_tables (length p.tables) p.groups) p.groups k

-- the values of the tables with lower numbers, and none of the others
abbrev pub below : ℕ → Values → Values
below n v t key = if nat_lt t n then v t key else None
