use Rattle.std.proofs.Common.{◌≡◌, ◌∙◌, sym, ap, take, drop}
use Rattle.chunk_core.specs.Elements.{elements}
use Rattle.pull_nodes.specs.Utf8.{finished_front, unfinished_rest}
use Rattle.text_pipes.proofs.LossyFeeds.{lossy_extends, lossy_stands}
use Rattle.text_pipes.proofs.lossy.LossyPipeFeed.feed.Goals as goal

pub returns : goal.returns
returns c m xs h takes =
    let kept = c.args.self.now.held.items in
    let all = c.in_ok-bytes.bytes in
    let n = c.finished_len.result in
    let front : c.in_ok-front.front ≡ finished_front all = c.in_ok-front.ensures.front ∙ (ap (take n) (sym c.as_slice.ensures) ∙ (c.finished_len.ensures.front ∙ ap finished_front c.as_slice.ensures)) in
    let rest : c.in_ok-self.field-0.items ≡ unfinished_rest all =
    c.in_ok-self.ensures.items ∙ (c.as_slice-2.ensures ∙ (c.in_ok-front.ensures.rest ∙ (ap (drop n) (sym c.as_slice.ensures) ∙ (c.finished_len.ensures.rest ∙ ap unfinished_rest c.as_slice.ensures)))) in (
      lossy_extends kept c.into_bytes.result all c.in_ok-front.front c.in_ok-read_lossy.field-0 c.in_ok-bytes.ensures.all front c.in_ok-read_lossy.ensures
          m xs (elements c.args.load) c.into_bytes.ensures h.0 h.1,
      (h.0, lossy_stands kept c.into_bytes.result all c.in_ok-self.field-0.items c.in_ok-bytes.ensures.all rest xs (elements c.args.load) c.into_bytes.ensures h.1),
    )
