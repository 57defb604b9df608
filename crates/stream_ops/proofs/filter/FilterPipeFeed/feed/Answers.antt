use Rattle.std.proofs.Common.{◌∙◌, sym, subst}
use Rattle.chunk_core.specs.Elements.{elements}
use Rattle.pull_nodes.specs.Pipes.{IsMeaningOf}
use Rattle.pull_nodes.specs.declared.pipe.Pipe.TheVariants as pipe
use Rattle.stream_ops.proofs.Matches.{filter_feeds}
use Rattle.stream_ops.proofs.filter.FilterPipeFeed.feed.Goals as goal

pub returns : goal.returns
returns c m xs h takes = (
  filter_feeds c.args.self.now.finder.value c.into_lines.result c.in_ok-give.field-0 (elements c.args.load) c.into_lines.ensures (c.in_ok-give.ensures ∙ c.in_ok-kept.ensures.kept) m xs h,
  subst (λ text. IsMeaningOf (pipe.Filter text) m) (sym c.in_ok-kept.ensures.same) h,
)
