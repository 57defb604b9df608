use Rattle.std.proofs.Common.{arith, length}
use Rattle.pipeline_desc.specs.Groups.{described_view}
use Rattle.pipeline_desc.proofs.Groups.{members_count, same_count}
use Rattle.pipeline_desc.proofs.Wholes.{tables_there, whole_sound}
use Rattle.pipeline_desc.proofs.reader.plan_below.Goals as goal

pub streams-requires-clause-tables : goal.streams-requires-clause-tables
streams-requires-clause-tables c =
    let d = c.args.below.described in
    let tables = c.in_ok-tables.tables in
    tables_there (described_view d) tables c.as_slice-records.result.now c.as_slice-spans.result.now c.as_slice-records.ensures c.as_slice-spans.ensures
    (same_count c.as_slice-of_tables.result.now d.tables (length tables) c.in_ok-tables.ensures.count c.as_slice-of_tables.ensures) c.requires.follow

pub list_behind-requires-clause-tables : goal.list_behind-requires-clause-tables
list_behind-requires-clause-tables c =
    let d = c.args.below.described in
    let tables = c.in_ok-tables.tables in
    tables_there (described_view d) tables c.as_slice-records.result.now c.as_slice-spans.result.now c.as_slice-records.ensures c.as_slice-spans.ensures
    (same_count c.as_slice-of_tables.result.now d.tables (length tables) c.in_ok-tables.ensures.count c.as_slice-of_tables.ensures) c.requires.follow

pub whole-requires : goal.whole-requires
whole-requires c =
    let d = c.args.below.described in
    let tables = c.in_ok-tables.tables in
    let streams = c.in_ok-streams.streams in
    let count = same_count c.as_slice-of_tables.result.now d.tables (length tables) c.in_ok-tables.ensures.count c.as_slice-of_tables.ensures in
    let many = same_count c.as_slice-of_streams.result.now d.streams (length streams) c.in_ok-streams.ensures.count c.as_slice-of_streams.ensures in
    let in_tables = members_count d.tables in
    let in_streams = members_count d.streams in
    whole_sound (described_view d) tables c.as_slice-records.result.now c.as_slice-spans.result.now c.as_slice-records.ensures c.as_slice-spans.ensures count c.requires.follow
    streams c.as_slice-all.result.now c.in_ok-list.list c.args.numbers c.as_slice-all.ensures many
    (omega (arith, count, in_tables, c.requires.tables)) (omega (arith, many, in_streams, c.requires.streams)) c.requires.groups c.requires.numbers c.in_ok-tables.ensures.sound c.in_ok-streams.ensures.sound
    c.in_ok-list.ensures.sound c.in_ok-check_outputs.ensures.alone
