-- What the bytes of a description mean: a plan, or the first reason to refuse them.
use Rattle.std.specs.Prelude.{ℕ, Bool, false, ◌==◌, nat_le, List, [], ◌∷◌, ◌++◌, length, codes, Option, Some, None, Ok, ℤ, pos, negsuc, if◌then◌else◌, option_and_then, unwrap_or}
use Rattle.std.specs.Str.{is_utf8}
use Rattle.toml.specs.Data.{Members, as_integer, as_table, get_member}
use Rattle.toml.specs.Parse.{parse_document}
use Rattle.pipeline_desc.specs.Limits.{most_bytes, most_groups, most_streams, most_tables}
use Rattle.pipeline_desc.specs.Meant.{PlanMeant}
use Rattle.pipeline_desc.specs.Groups.{BelowMeant, DescribedMeant, at_top, with_group}
use Rattle.pipeline_desc.specs.Reading.{Reading, ◌>>=◌, passes, present}
use Rattle.pipeline_desc.specs.Outputs.{outputs_alone}
use Rattle.pipeline_desc.specs.Streams.{list_behind, streams_meant}
use Rattle.pipeline_desc.specs.Tables.{tables_meant}
use Rattle.pipeline_desc.specs.Values.{known_keys, list_at, number_within, table_that, tables_at, where_given}
use Rattle.pipeline_desc.specs.declared.plan.Numbers.{Numbers}
use Rattle.pipeline_desc.specs.declared.refusal.Position.TheVariants.{Nowhere}
use Rattle.pipeline_desc.specs.declared.refusal.RefusalKind.TheVariants as refused

-- the bytes of a document: not too many, UTF-8, and TOML
abbrev pub document_of : List ℕ → Reading Members
document_of bytes =
    passes (nat_le (length bytes) most_bytes) refused.TooLong Nowhere >>= (λ _.
    passes (is_utf8 bytes) refused.NotUtf8 Nowhere >>= (λ _.
    present (parse_document bytes) refused.NotToml Nowhere))

-- the integer 2
abbrev pub is_two : Option ℤ → Bool
is_two None = false
is_two (Some (negsuc n)) = false
is_two (Some (pos n)) = n == 2

-- the description is of the second version
abbrev pub is_second : Members → Bool
is_second ms = is_two (option_and_then as_integer (get_member (codes "version") ms))

-- the keys of the top, the last two of which the second version alone has
abbrev pub first_keys : List (List ℕ)
first_keys =
    codes "version" ∷ codes "max_open" ∷ codes "queue" ∷ codes "chunk" ∷ codes "take" ∷ codes "table" ∷ codes "stream" ∷ []

abbrev pub top_keys : Bool → List (List ℕ)
top_keys second = if second then first_keys ++ codes "group" ∷ codes "list" ∷ [] else first_keys

-- the keys of a group
abbrev pub group_keys : List (List ℕ)
group_keys = codes "table" ∷ codes "stream" ∷ []

-- the table of a group behind what is described: its keys in their order
abbrev pub group_meant : DescribedMeant → Members → Reading DescribedMeant
group_meant d ms =
    known_keys group_keys Nowhere ms >>= (λ _.
    list_at as_table Nowhere (get_member (codes "table") ms) >>= (λ tables.
    list_at as_table Nowhere (get_member (codes "stream") ms) >>= (λ streams. Ok (with_group d tables streams))))

-- the tables of groups in order, behind what is described
abbrev pub groups_meant : DescribedMeant → List Members → Reading DescribedMeant
groups_meant d [] = Ok d
groups_meant d (ms ∷ groups) = group_meant d ms >>= (λ more. groups_meant more groups)

-- not too many tables, and not too many streams, of the top and of all groups together
abbrev pub are_few : DescribedMeant → Reading (Unit {0})
are_few d =
    passes (nat_le (length d.tables) most_tables) refused.OutOfRange Nowhere >>= (λ _.
    passes (nat_le (length d.streams) most_streams) refused.OutOfRange Nowhere)

-- the numbers of the top, in the order of their keys
abbrev pub numbers_meant : Members → Reading Numbers
numbers_meant ms =
    where_given (number_within 1 2 Nowhere) (get_member (codes "version") ms) >>= (λ _.
    where_given (number_within 1 64 Nowhere) (get_member (codes "max_open") ms) >>= (λ max_open.
    where_given (number_within 1 64 Nowhere) (get_member (codes "queue") ms) >>= (λ queue.
    where_given (number_within 1 65536 Nowhere) (get_member (codes "chunk") ms) >>= (λ chunk.
    where_given (number_within 0 1000000000 Nowhere) (get_member (codes "take") ms) >>= (λ take.
    Ok (record { max_open = unwrap_or max_open 4; queue = unwrap_or queue 16; chunk = unwrap_or chunk 4096; take = take }))))))

-- the arrays of the top and the table of its list, in the order of their keys, and then its groups
abbrev pub below_meant : Members → Reading BelowMeant
below_meant ms =
    tables_at most_tables (get_member (codes "table") ms) >>= (λ tables.
    tables_at most_streams (get_member (codes "stream") ms) >>= (λ streams.
    tables_at most_groups (get_member (codes "group") ms) >>= (λ groups.
    where_given (table_that Nowhere) (get_member (codes "list") ms) >>= (λ list.
    groups_meant (at_top tables streams) groups >>= (λ described.
    are_few described >>= (λ _. Ok (record { described = described; list = list })))))))

-- what stands below the top: the tables, the streams, the list, and then what holds of all paths
abbrev pub plan_below : Numbers → BelowMeant → Reading PlanMeant
plan_below numbers below =
    tables_meant below.described.tables >>= (λ tables.
    streams_meant tables below.described.groups below.described.streams >>= (λ streams.
    list_behind tables below.described.groups (length streams) below.list >>= (λ list.
    outputs_alone tables list streams >>= (λ _.
    Ok (record {
      max_open = numbers.max_open;
      queue = numbers.queue;
      chunk = numbers.chunk;
      take = numbers.take;
      tables = tables;
      streams = streams;
      groups = below.described.groups;
      list = list;
    })))))

-- the table of a description: its keys, its values, and what is described below it
abbrev pub plan_meant : Members → Reading PlanMeant
plan_meant ms =
    known_keys (top_keys (is_second ms)) Nowhere ms >>= (λ _.
    numbers_meant ms >>= (λ numbers. below_meant ms >>= plan_below numbers))

-- the bytes of a description
abbrev pub plan_of : List ℕ → Reading PlanMeant
plan_of bytes = document_of bytes >>= plan_meant
