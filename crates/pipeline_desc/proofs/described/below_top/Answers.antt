use Rattle.std.proofs.Common.{ap, arith, length, subst}
use Rattle.toml.specs.Data.{as_table}
use Rattle.pipeline_desc.specs.Groups.{DescribedMeant, Follows, at_top, described_view}
use Rattle.pipeline_desc.specs.Values.{seen_as}
use Rattle.pipeline_desc.proofs.Groups.{groups_count, groups_follow, read_same, top_follows}
use Rattle.pipeline_desc.proofs.Seen.{length_seen}
use Rattle.pipeline_desc.proofs.described.below_top.Goals as goal

pub returns-clause-groups : goal.returns-clause-groups
returns-clause-groups c =
    let groups = c.in_ok-in_groups.in_groups.now in
    let count = groups_count (described_view c.in_ok-top.top) (described_view c.in_ok-described.described) (seen_as as_table groups) c.in_ok-described.ensures in
    let same = read_same (at_top (seen_as as_table c.in_ok-own_tables.own_tables.now) (seen_as as_table c.in_ok-own_streams.own_streams.now)) (described_view c.in_ok-top.top) c.in_ok-top.ensures in
    let none = ap (λ (d : DescribedMeant). length d.groups) same in
    let seen = length_seen as_table groups c.in_ok-in_groups.ensures.seen in
    omega (arith, count, none, seen, c.in_ok-in_groups.ensures.few)

pub returns-clause-follow : goal.returns-clause-follow
returns-clause-follow c =
    let tables = seen_as as_table c.in_ok-own_tables.own_tables.now in
    let streams = seen_as as_table c.in_ok-own_streams.own_streams.now in
    groups_follow (described_view c.in_ok-top.top) (described_view c.in_ok-described.described) (seen_as as_table c.in_ok-in_groups.in_groups.now) c.in_ok-described.ensures
    (subst Follows (read_same (at_top tables streams) (described_view c.in_ok-top.top) c.in_ok-top.ensures) (top_follows tables streams))
