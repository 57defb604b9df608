use Rattle.std.proofs.Common.{[], refl, sym}
use Rattle.chunk_core.specs.Elements.{elements}
use Rattle.chunk_core.specs.Elements.LoadKind.{Bytes, Lines}
use Rattle.pull_nodes.specs.Pipes.{meaning}
use Rattle.pull_nodes.specs.declared.pipe.Pipe.TheVariants as pipe
use Rattle.crate_pages.proofs.text_pipes_page.lines_of.Goals as goal

pub feed-requires : goal.feed-requires
feed-requires c = let m = meaning pipe.Lines Bytes Lines in (m, [], c.in_ok-pipe.ensures m refl, sym c.in_ok-bytes.ensures)

pub feed-requires-2 : goal.feed-requires-2
feed-requires-2 c =
    let m = meaning pipe.Lines Bytes Lines in
    let fed = rw c.in-Out.is at c.in_ok-first.ensures m [] (c.in_ok-pipe.ensures m refl) (sym c.in_ok-bytes.ensures) in (m, elements c.in_ok-bytes.field-0, fed.1, sym c.in_ok-bytes-2.ensures)
