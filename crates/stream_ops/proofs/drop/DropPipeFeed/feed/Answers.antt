use Rattle.std.proofs.Common.{◌-◌, ◌∙◌, ap}
use Rattle.stream_ops.proofs.Drops.{drop_feeds}
use Rattle.stream_ops.proofs.drop.DropPipeFeed.feed.Goals as goal

pub returns : goal.returns
returns c m xs h takes =
    drop_feeds c.args.self.now (record { left = c.saturating_sub-self.result }) c.args.load c.split.new.self
    c.in_ok-split.ensures.rest c.in_ok-split.ensures.same (c.saturating_sub-self.ensures ∙ ap (λ n. c.args.self.now.left - n) c.len-len.ensures) m xs h takes
