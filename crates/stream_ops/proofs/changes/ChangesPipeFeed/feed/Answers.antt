use Rattle.stream_ops.proofs.Differing.{changes_feeds}
use Rattle.stream_ops.proofs.changes.ChangesPipeFeed.feed.Goals as goal

pub returns : goal.returns
returns c m xs h takes =
    changes_feeds c.args.self.now c.note.new.self c.args.load c.in_ok-kept.kept c.in_ok-kept.ensures.list c.in_ok-kept.ensures.kind c.in_ok-note.ensures m xs h takes
