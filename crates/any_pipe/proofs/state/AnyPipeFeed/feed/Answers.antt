use Rattle.any_pipe.proofs.state.AnyPipeFeed.feed.Goals as goal

pub feed-requires-in-Lookup : goal.feed-requires-in-Lookup
feed-requires-in-Lookup c = rw c.in-Lookup.is at c.requires

pub returns-in-Lookup : goal.returns-in-Lookup
returns-in-Lookup c = rw c.in-Lookup.is c.feed-in-Lookup.ensures
