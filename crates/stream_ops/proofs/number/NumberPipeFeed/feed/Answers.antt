use Rattle.std.proofs.Common.{◌∙◌, ap, map}
use Rattle.chunk_core.specs.Elements.{elements, Line}
use Rattle.stream_ops.proofs.Numbers.{number_feeds, number_next, numbered_from}
use Rattle.stream_ops.proofs.number.NumberPipeFeed.feed.Goals as goal

pub returns : goal.returns
returns c m xs h takes =
    let first = c.args.self.now.next in
    let lines = c.into_lines-lines.result in
    let came = elements c.args.load in (
      number_feeds first lines c.in_ok-give.field-0 came c.into_lines-lines.ensures
          (λ k at. ap (map Line) c.in_ok-give.ensures ∙ (c.in_ok-given.ensures k at ∙ ap (λ l. numbered_from k (map Line l)) c.as_slice.ensures)) m xs h.0 h.1,
      (h.0, number_next first c.saturating_add-self.result c.len.result lines xs came c.into_lines-lines.ensures h.1 c.len.ensures c.saturating_add-self.ensures),
    )
