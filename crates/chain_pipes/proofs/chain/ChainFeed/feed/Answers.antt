use Rattle.std.proofs.Common.{arith}
use Rattle.chunk_core.specs.Elements.{elements}
use Rattle.chain_pipes.proofs.Chained.{feeds_nothing}
use Rattle.chain_pipes.proofs.Giving.{none_of}
use Rattle.chain_pipes.proofs.chain.ChainFeed.feed.Goals as goal

pub returns-then-len-eq0 : goal.returns-then-len-eq0
returns-then-len-eq0 c m xs s takes =
    feeds_nothing c.args.self.now m xs c.args.load c.empty_of.result s (none_of (elements c.args.load) (omega (arith, c.if-len-eq0.true, c.len-len.ensures))) c.empty_of.ensures.none (c.empty_of.ensures.kind m.gives s.2)
