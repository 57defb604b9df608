-- The groups of a description: which tables and streams are theirs.
use Rattle.std.specs.Prelude.{◌≡◌, ℕ, ◌+◌, ◌≤◌, List, [], ◌∷◌, ◌++◌, length, map, String, Option, option_map}
use Rattle.std.specs.Borrow.{Bor}
use Rattle.std.specs.BTreeMap.{BTreeMap}
use Rattle.std.specs.declared.alloc.Global.{Global}
use Rattle.toml.specs.Data.{Members}
use Rattle.toml.specs.View.{table_view}
use Rattle.toml.specs.declared.value.Value.{Value}
use Rattle.pipeline_desc.specs.Meant.{own_tables, top_streams, top_tables}
use Rattle.pipeline_desc.specs.declared.described.Below.{Below}
use Rattle.pipeline_desc.specs.declared.described.Described.{Described}
use Rattle.pipeline_desc.specs.declared.group.GroupSpec.{GroupSpec}

-- the tables and the streams that are described so far, in the order of their numbers, and the groups
pub record DescribedMeant : Type 0 where
  pub tables : List Members
  pub streams : List Members
  pub groups : List GroupSpec

-- what is described, and the table of the list, where there is one
pub record BelowMeant : Type 0 where
  pub described : DescribedMeant
  pub list : Option Members

-- a group of so many tables and streams, the first of which have these numbers
abbrev pub group_from : ℕ → ℕ → ℕ → ℕ → GroupSpec
group_from table tables stream streams = record {
  tables = record { from = table; to = table + tables };
  streams = record { from = stream; to = stream + streams };
}

-- what the top describes, which stands in no group
abbrev pub at_top : List Members → List Members → DescribedMeant
at_top tables streams = record { tables = tables; streams = streams; groups = [] }

-- what is described, and behind it a group with these tables and streams
abbrev pub with_group : DescribedMeant → List Members → List Members → DescribedMeant
with_group d tables streams = record {
  tables = d.tables ++ tables;
  streams = d.streams ++ streams;
  groups = d.groups ++ group_from (length d.tables) (length tables) (length d.streams) (length streams) ∷ [];
}

-- the tables and the streams of these groups follow one another from these numbers to those
abbrev pub FollowOn : ℕ → ℕ → List GroupSpec → ℕ → ℕ → Type 0
FollowOn table stream [] tables streams = (table ≡ tables) × (stream ≡ streams)
FollowOn table stream (g ∷ groups) tables streams =
    (g.tables.from ≡ table) × (g.streams.from ≡ stream) × (table ≤ g.tables.to) × (stream ≤ g.streams.to) × FollowOn g.tables.to g.streams.to groups tables streams

-- the tables and streams of the groups that are described follow those of the top, to the last
abbrev pub Follows : DescribedMeant → Type 0
Follows d = FollowOn (top_tables (length d.tables) d.groups) (top_streams (length d.streams) d.groups) d.groups (length d.tables) (length d.streams)

-- the tables of the top, and those of the group of each stream, are among so many
pub record HaveTables (tables : ℕ) (groups : List GroupSpec) : Type 0 where
  pub top : top_tables tables groups ≤ tables
  pub own : (k : ℕ) → (own_tables groups k).from ≤ (own_tables groups k).to
  pub there : (k : ℕ) → (own_tables groups k).to ≤ tables

-- the tables of a document that are seen at these places
abbrev pub members_of : List (Bor (BTreeMap (String Global) Value)) → List Members
members_of tables = map (λ t. table_view t.now) tables

-- what is described, and what stands below the top, as they are seen
abbrev pub described_view : Described → DescribedMeant
described_view d = record { tables = members_of d.tables; streams = members_of d.streams; groups = d.groups }

abbrev pub below_view : Below → BelowMeant
below_view b = record { described = described_view b.described; list = option_map (λ t. table_view t.now) b.list }
