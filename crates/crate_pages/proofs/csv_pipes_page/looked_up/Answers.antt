use Rattle.std.proofs.Common.{[], inl, refl, sym}
use Rattle.std.specs.Arc.{arc_value}
use Rattle.std.specs.FinMap.{get}
use Rattle.chunk_core.specs.Elements.{elements}
use Rattle.chunk_core.specs.Elements.LoadKind.{Bytes, Rows}
use Rattle.chunk_core.specs.Tables.{Values}
use Rattle.pull_nodes.specs.Pipes.{meaning, meaning_over}
use Rattle.pull_nodes.specs.declared.pipe.Pipe.TheVariants as pipe
use Rattle.crate_pages.proofs.csv_pipes_page.looked_up.Goals as goal

pub feed-requires : goal.feed-requires
feed-requires c = let m = meaning pipe.Csv Bytes Rows in (m, [], c.in_ok-csv.ensures m refl, sym c.in_ok-bytes.ensures)

pub finish-requires : goal.finish-requires
finish-requires c =
    let m = meaning pipe.Csv Bytes Rows in
    let fed = rw c.in-Out.is at c.in_ok-feed.ensures m [] (c.in_ok-csv.ensures m refl) (sym c.in_ok-bytes.ensures) in inl (m, elements c.in_ok-bytes.field-0, fed.1)

pub feed-requires-2 : goal.feed-requires-2
feed-requires-2 c =
    let csv = meaning pipe.Csv Bytes Rows in
    let fed = rw c.in-Out.is at c.in_ok-feed.ensures csv [] (c.in_ok-csv.ensures csv refl) (sym c.in_ok-bytes.ensures) in
    let given = rw c.in-Out-2.is at c.in_ok-rows.ensures.first csv (elements c.in_ok-bytes.field-0) fed.1 in
    let v : Values = λ t key. get (arc_value c.in_ok-dict.field-0) key in
    let m = meaning_over v (pipe.Lookup 0 0) Rows Rows in (m, [], c.in_ok-lookup.ensures v 0 m (λ key. refl) refl, sym given.given.0)
