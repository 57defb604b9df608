use Rattle.std.proofs.Common.{◌∙◌, sym, ap, map, subst}
use Rattle.chunk_core.specs.Elements.{elements, Byte}
use Rattle.chunk_core.specs.Feed.{Extends}
use Rattle.chunk_core.specs.declared.load.Load.TheVariants as load
use Rattle.pull_nodes.specs.Lines.{long_fault}
use Rattle.text_pipes.proofs.LinesFeeds.{lines_feed}
use Rattle.text_pipes.proofs.lines.LinesPipeFeed.feed.Goals as goal

pub returns-then-long : goal.returns-then-long
returns-then-long c m xs h takes =
    let bytes = c.into_bytes-bytes.ensures ∙ ap (map Byte) (sym c.as_slice.ensures) in
    let fed = lines_feed c.args.self.now c.take.new.self c.as_slice.result.now c.in_ok-lines.lines.items c.in_ok-give.field-0 c.in_ok-lines.long
    c.in_ok-lines.ensures c.in_ok-give.ensures m xs (elements c.args.load) bytes h in
    subst (λ d. Extends m xs (elements c.args.load) (load.Lines c.in_ok-give.field-0) d) (ap long_fault c.if-long.true) fed.0

pub returns : goal.returns
returns c m xs h takes =
    let bytes = c.into_bytes-bytes.ensures ∙ ap (map Byte) (sym c.as_slice.ensures) in
    let fed = lines_feed c.args.self.now c.take.new.self c.as_slice.result.now c.in_ok-lines.lines.items c.in_ok-give.field-0 c.in_ok-lines.long
    c.in_ok-lines.ensures c.in_ok-give.ensures m xs (elements c.args.load) bytes h in
    (subst (λ d. Extends m xs (elements c.args.load) (load.Lines c.in_ok-give.field-0) d) (ap long_fault c.if-long.false) fed.0, fed.1 c.if-long.false)
